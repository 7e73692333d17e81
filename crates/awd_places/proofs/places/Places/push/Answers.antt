use Rattle.std.proofs.Common.{◌<◌, None, get_or}
use Rattle.awd_places.specs.declared.places.Node.{Node}
use Rattle.awd_places.specs.Numbers.{slot_of}
use Rattle.awd_places.proofs.Chains.{one_more}
use Rattle.awd_places.proofs.places.Places.push.Goals as goal

pub invariant_of-self : goal.invariant_of-self
invariant_of-self c =
    let slot = slot_of c.args.place in
    let node : Node = record { place = c.args.place; older = get_or c.self.inside.heads slot None } in
    let below : slot < 4096 = rw c.slot-slot.ensures.value at c.slot-slot.ensures.below in
    rw (c.push.ensures.items, c.slot-slot.ensures.value, c.len-number.ensures.value)
    (one_more c.self.inside.nodes.items node c.self.inside.heads c.self.invariant (c.self.invariant.head_is_last slot below))
