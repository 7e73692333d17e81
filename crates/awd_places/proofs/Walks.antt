-- A walk along a chain of places.
use Rattle.std.proofs.Common.{◌≡◌, ◌≢◌, ◌<◌, ◌≤◌, ℕ, ◌+◌, Bool, eqb, List, length, get_or, slice_get, Some, None, Option, IfSome, sym, ap, subst, ◌∙◌, arith}
use Rattle.std.proofs.lemmas.Bool.{cond-false, eqb-true, eq-eqb, ne_eqb}
use Rattle.std.proofs.lemmas.List.{get_or-map, length-map}
use Rattle.std.proofs.lemmas.Option.{slice_get-get_or, slice_get_within}
use Rattle.awd_places.specs.declared.places.Node.{Node}
use Rattle.awd_places.specs.Numbers.{last_number, number_of, slot_of, last_in}
use Rattle.awd_places.specs.Chains.{places_of, Chained}
use Rattle.awd_places.proofs.Numbers.{last_below, last_passes, last_to, last_skip}

-- a place, as a test
abbrev pub is_place : ℕ → ℕ → Bool
is_place place p = eqb p place

-- of places, a place that is looked for, and the number that is looked at next: it is one of the slot, and nothing behind it is the place
pub record Walks (ps : List ℕ) (place : ℕ) (next : Option ℕ) : Type 0 where
  pub found : number_of ps place ≡ last_to (is_place place) ps next
  pub within : IfSome next (λ n. n < length ps)
  pub in_slot : IfSome next (λ n. slot_of (get_or ps n 0) ≡ slot_of place)

-- how many places may still be looked at
abbrev pub at_most : Option ℕ → ℕ
at_most None = 0
at_most (Some n) = n + 1

-- whether a place shares the slot of another
abbrev shares : ℕ → ℕ → Bool
shares place p = eqb (slot_of p) (slot_of place)

-- places that do not are left out
skip_slots : (ps : List ℕ) (place n : ℕ) → last_number (is_place place) ps n ≡ last_to (is_place place) ps (last_in (slot_of place) ps n)
skip_slots ps place n = last_skip (is_place place) (shares place) ps n (λ x same. eq-eqb _ _ (ap slot_of (eqb-true x place same)))

-- the last in the slot of the first n
walks-last : (ps : List ℕ) (place n : ℕ) (next : Option ℕ) → n ≤ length ps → next ≡ last_in (slot_of place) ps n
    → number_of ps place ≡ last_number (is_place place) ps n → Walks ps place next
walks-last ps place n None h is found = record {
  found = found ∙ skip_slots ps place n ∙ ap (last_to (is_place place) ps) (sym is);
  within = tt;
  in_slot = tt;
}
walks-last ps place n (Some m) h is found =
    let below = last_below (shares place) ps n m (sym is) in
    record {
      found = found ∙ skip_slots ps place n ∙ ap (last_to (is_place place) ps) (sym is);
      within = omega arith;
      in_slot = eqb-true _ _ (last_passes (shares place) ps n m (sym is));
    }

-- fewer places are left behind a number
fewer : (f : ℕ → Bool) (ps : List ℕ) (n : ℕ) (next : Option ℕ) → next ≡ last_number f ps n → at_most next < n + 1
fewer f ps n None is = omega arith
fewer f ps n (Some m) is = omega (arith, last_below f ps n m (sym is))

-- of nodes in their chains
module _ (nodes : List Node) (heads : List (Option ℕ)) (h : Chained nodes heads) (place : ℕ) where
  -- the walk begins at the head of the slot
  pub walk_begins : slot_of place < 4096 → Walks (places_of nodes) place (get_or heads (slot_of place) None)
  walk_begins below =
      let many = length-map nodes (λ (x : Node). x.place) in
      walks-last (places_of nodes) place (length nodes) _ (omega arith) (h.head_is_last (slot_of place) below)
      (ap (last_number (is_place place) (places_of nodes)) many)

  -- of a number that the walk comes to, and its node
  module _ (next : Option ℕ) (n : ℕ) (is : next ≡ Some n) (w : Walks (places_of nodes) place next) (none : Node) where
    walks : Walks (places_of nodes) place (Some n)
    walks = subst (Walks (places_of nodes) place) is w

    at : slice_get nodes n ≡ Some (get_or nodes n none)
    at = let within = walks.within in let many = length-map nodes (λ (x : Node). x.place) in slice_get-get_or nodes n none (omega arith)

    place_at : get_or (places_of nodes) n 0 ≡ (get_or nodes n none).place
    place_at = get_or-map (λ (x : Node). x.place) nodes n none 0 (slice_get_within nodes n _ at)

    -- where that is not the place, the walk goes on behind it
    pub walk_goes_on : (get_or nodes n none).place ≢ place → Walks (places_of nodes) place (get_or nodes n none).older
    walk_goes_on other =
        let within = walks.within in
        walks-last (places_of nodes) place n (get_or nodes n none).older (omega arith)
        (h.older_is_last n _ at ∙ ap (λ s. last_in s (places_of nodes) n) (ap slot_of (sym place_at) ∙ walks.in_slot))
        (walks.found ∙ cond-false _ _ _ (ne_eqb _ _ (λ e. other (sym place_at ∙ e))))

    -- and fewer are left
    pub walk_shortens : at_most (get_or nodes n none).older < at_most next
    walk_shortens =
        let less = fewer (shares (get_or nodes n none).place) (places_of nodes) n (get_or nodes n none).older (h.older_is_last n _ at) in
        subst (λ o. at_most (get_or nodes n none).older < at_most o) (sym is) less
