use Rattle.std.proofs.Common.{◌≡◌, None}
use Rattle.awdreplay.specs.Lines.{AllAlike}
use Rattle.awdreplay.proofs.replay.Given as goal

-- such as were alike still are, and no line was told at which they differ
abbrev pub invariant-loop-before : goal.invariant-loop-before
invariant-loop-before l = AllAlike l.initial.replicas → AllAlike l.replicas × (l.differs ≡ None)
