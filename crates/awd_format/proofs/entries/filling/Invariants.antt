use Rattle.std.proofs.Common.{◌≡◌, ◌+◌, ◌-◌, ◌≤◌}
use Rattle.awd_format.specs.Runs.{filling_at}
use Rattle.awd_format.proofs.entries.filling.Given as goal

abbrev pub invariant-loop-index : goal.invariant-loop-index
invariant-loop-index g l =
    let read = g.K.EntryKind.reading l.kind in
    let B = g.S.Source.bytes l.holder.source.now in
    let end = l.holder.end in
    (l.place ≤ end) × (l.at + l.index ≤ l.place)
    × (filling_at read B end (end - l.at - l.index) l.index l.place ≡ filling_at read B end (end - l.at) 0 l.at)
