use Rattle.std.proofs.Common.{◌≡◌, ◌+◌, ◌-◌, drop}
use Rattle.awd_edits.proofs.Spots.{held}
use Rattle.awd_edits.proofs.edit.Edit.take_off.Given as goal

-- what is left to be taken away leads to what all of them leave
abbrev pub invariant-loop-further : goal.invariant-loop-further
invariant-loop-further l =
    drop (held (l.self.place + l.further) (l.further-end - l.further)) l.bytes ≡ drop (held l.self.place l.further-end) l.initial.bytes
