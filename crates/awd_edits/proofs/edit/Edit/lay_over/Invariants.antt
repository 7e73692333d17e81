use Rattle.std.proofs.Common.{◌≡◌, ◌+◌, ◌≤◌, length, drop}
use Rattle.awd_edits.specs.Overlay.{bytes_laid}
use Rattle.awd_edits.specs.Spots.{spots_from, spots_over}
use Rattle.awd_edits.proofs.edit.Edit.lay_over.Given as goal

-- what is left to be laid leads to what all of them come to
abbrev pub invariant-loop-further : goal.invariant-loop-further
invariant-loop-further l = record {
  comes_to : spots_from l.bytes (l.self.place + l.further) (drop l.further (bytes_laid l.self.laid)) ≡ spots_over l.initial.bytes l.self;
  room : length l.bytes ≤ length l.initial.bytes + l.further;
}
