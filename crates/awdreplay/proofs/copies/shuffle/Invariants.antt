use Rattle.std.proofs.Common.{length}
use Rattle.awdreplay.proofs.Shown.{Shown}
use Rattle.awdreplay.proofs.copies.shuffle.Given as goal

abbrev pub invariant-loop-rest : goal.invariant-loop-rest
invariant-loop-rest l = Shown l.document l.rest l.stored.items

abbrev pub decreases-loop-rest : goal.decreases-loop-rest
decreases-loop-rest l = length l.rest
