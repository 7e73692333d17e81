use Rattle.awd_places.specs.Chains.{places_of}
use Rattle.awd_places.proofs.Walks.{Walks, at_most}
use Rattle.awd_places.proofs.places.Places.find.Given as goal

abbrev pub invariant-loop-next : goal.invariant-loop-next
invariant-loop-next l = Walks (places_of l.self-inside.nodes.items) l.place l.next

abbrev pub decreases-loop-next : goal.decreases-loop-next
decreases-loop-next l = at_most l.next
