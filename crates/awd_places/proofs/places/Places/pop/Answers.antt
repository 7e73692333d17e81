use Rattle.std.proofs.Common.{◌≡◌, [], ◌∷◌, ◌++◌, set, sym, subst}
use Rattle.awd_places.specs.Chains.{Chained}
use Rattle.awd_places.proofs.Chains.{one_less}
use Rattle.awd_places.proofs.places.Places.pop.Goals as goal

pub invariant_of-self : goal.invariant_of-self
invariant_of-self c =
    let nodes = c.pop.new.self.items in
    let node = c.in-Some.node in
    let heads = c.self.inside.heads in
    let taken : c.self.inside.nodes.items ≡ nodes ++ node ∷ [] = c.in-Some.ensures.items in
    subst (λ s. Chained nodes (set heads s node.older)) (sym c.slot.ensures.value)
    (one_less nodes node heads (subst (λ items. Chained items heads) taken c.self.invariant))
