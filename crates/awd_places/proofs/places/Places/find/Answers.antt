use Rattle.std.proofs.Common.{◌<◌}
use Rattle.awd_places.specs.Numbers.{slot_of}
use Rattle.awd_places.proofs.Walks.{walk_begins, walk_goes_on, walk_shortens}
use Rattle.awd_places.proofs.places.Places.find.Goals as goal

pub loop-next-init : goal.loop-next-init
loop-next-init c =
    let below : slot_of c.args.place < 4096 = rw c.slot.ensures.value at c.slot.ensures.below in
    rw c.slot.ensures.value (walk_begins c.self.inside.nodes.items c.self.inside.heads c.self.invariant c.args.place below)

pub loop-next-smaller : goal.loop-next-smaller
loop-next-smaller c =
    let x = c.self.inside in
    let walk = c.loop-next in
    rw c.deref.ensures.0
    (walk_shortens x.nodes.items x.heads c.self.invariant c.args.place walk.next c.in-Some.number c.in-Some.is walk.invariant _)

pub loop-next-preserved : goal.loop-next-preserved
loop-next-preserved c =
    let x = c.self.inside in
    let walk = c.loop-next in
    let other = rw c.deref.ensures.0 at c.if-node-place.false in
    rw c.deref.ensures.0
    (walk_goes_on x.nodes.items x.heads c.self.invariant c.args.place walk.next c.in-Some.number c.in-Some.is walk.invariant _ other)
