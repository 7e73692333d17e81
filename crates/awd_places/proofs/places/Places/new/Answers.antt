use Rattle.awd_places.proofs.Chains.{none_chained}
use Rattle.std.proofs.Common.{refl}
use Rattle.awd_places.proofs.places.Places.new.Goals as goal

pub invariant_of-result : goal.invariant_of-result
invariant_of-result c = rw c.new.ensures (none_chained 4096 refl)
