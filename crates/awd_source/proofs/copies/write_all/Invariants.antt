use Rattle.std.proofs.Common.{◌≡◌, ◌≤◌, ◌++◌, length, take, drop}
use Rattle.awd_source.proofs.copies.write_all.Given as goal

abbrev pub invariant-loop-at : goal.invariant-loop-at
invariant-loop-at g l = record {
  within : l.at ≤ length (g.S.Source.bytes l.source);
  so_far : l.front ≡ take l.at (g.S.Source.bytes l.source) ++ drop l.at l.initial.front;
}
