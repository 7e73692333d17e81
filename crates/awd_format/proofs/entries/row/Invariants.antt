use Rattle.std.proofs.Common.{◌≡◌, ◌-◌}
use Rattle.awd_format.specs.Runs.{counted_at}
use Rattle.awd_format.proofs.entries.row.Given as goal

abbrev pub invariant-loop-index : goal.invariant-loop-index
invariant-loop-index g l =
    let read = g.K.EntryKind.reading l.kind in
    let B = g.S.Source.bytes l.holder.source.now in
    counted_at read B l.holder.end (l.count - l.index) l.index l.place ≡ counted_at read B l.holder.end l.count 0 l.at
