use Rattle.std.proofs.Common.{◌≡◌, [], ◌∷◌, ◌++◌, Some, reverse, ap, subst, ◌∙◌, rules}
use Rattle.std.proofs.lemmas.List.{reverse-append}
use Rattle.awd_places.specs.Covers.{Covers}
use Rattle.awd_places.proofs.Covers.{back_fits}
use Rattle.awd_places.proofs.laid.LaidBytes.pop.Goals as goal

pub bounds-deref_mut-covered : goal.bounds-deref_mut-covered
bounds-deref_mut-covered c =
    let x = c.self.inside in
    let left = c.pop.new.self.items in
    let covered = c.in-Some-Some.covered in
    let taken : x.covered.items ≡ left ++ Some covered ∷ [] = search rules in
    let turned = ap reverse taken ∙ reverse-append left (Some covered ∷ []) in
    rw c.deref_mut.ensures.value
    (back_fits x.places x.shown.items covered (reverse left) (subst (Covers x.places x.shown.items) turned c.self.invariant))
