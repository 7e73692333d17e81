-- Chains of places: one more, one less, and a walk along one.
use Rattle.std.proofs.Common.{◌≡◌, ◌≢◌, ◌<◌, ◌≤◌, ℕ, zero, suc, cond, eqb, List, [], ◌∷◌, ◌++◌, length, get_or, set, replicate, slice_get, Some, None, Option, refl, sym, ap, subst, ◌∙◌, ⊎_elim, arith}
use Rattle.std.proofs.lemmas.Bool.{cond-true, cond-false, cases_eq, cases_lt, eq-eqb, ne_eqb}
use Rattle.std.proofs.lemmas.List.{get_or-set_same, get_or-set_other, get_or-replicate, length-replicate, length-set, length-map, map_push, length_push}
use Rattle.std.proofs.lemmas.Option.{same_Some, slice_get_within}
use Rattle.awd_places.specs.declared.places.Node.{Node}
use Rattle.awd_places.specs.Numbers.{slot_of, last_in}
use Rattle.awd_places.specs.Chains.{places_of, Chained}
use Rattle.awd_places.proofs.Numbers.{last_before, last_push}

-- no places
pub none_chained : (n : ℕ) → n ≡ 4096 → Chained [] (replicate n None)
none_chained n is = record {
  slots = length-replicate n None ∙ is;
  head_is_last = λ slot below. get_or-replicate n slot None None (omega arith);
  older_is_last = λ n node at. absurd (cc at);
}

-- an item before the last
get_before : (nodes : List Node) (node x : Node) (n : ℕ) → n < length nodes → slice_get (nodes ++ node ∷ []) n ≡ slice_get nodes n
get_before [] node x n h = absurd (omega arith)
get_before (y ∷ nodes) node x zero h = refl
get_before (y ∷ nodes) node x (suc n) h = get_before nodes node x n (omega arith)

-- and the last
get_last : (nodes : List Node) (node : Node) → slice_get (nodes ++ node ∷ []) (length nodes) ≡ Some node
get_last [] node = refl
get_last (y ∷ nodes) node = get_last nodes node

-- the last in a slot, with one place more
last_in-push : (nodes : List Node) (node : Node) (slot : ℕ)
    → last_in slot (places_of (nodes ++ node ∷ [])) (length (nodes ++ node ∷ []))
    ≡ cond (eqb (slot_of node.place) slot) (Some (length nodes)) (last_in slot (places_of nodes) (length nodes))
last_in-push nodes node slot =
    let more : length (nodes ++ node ∷ []) ≡ suc (length nodes) = omega (arith, length_push nodes node) in
    ap (λ n. last_in slot (places_of (nodes ++ node ∷ [])) n) more
    ∙ ap (λ ps. last_in slot ps (suc (length nodes))) (map_push (λ (x : Node). x.place) nodes node)
    ∙ last_push (λ p. eqb (slot_of p) slot) (places_of nodes) node.place (length nodes) (length-map nodes (λ (x : Node). x.place))

-- the last in a slot before a number, which a place more does not change
last_in-before : (nodes : List Node) (node : Node) (slot n : ℕ) → n ≤ length nodes
    → last_in slot (places_of (nodes ++ node ∷ [])) n ≡ last_in slot (places_of nodes) n
last_in-before nodes node slot n h =
    let many = length-map nodes (λ (x : Node). x.place) in
    ap (λ ps. last_in slot ps n) (map_push (λ (x : Node). x.place) nodes node)
    ∙ last_before (λ p. eqb (slot_of p) slot) (places_of nodes) (node.place ∷ []) n (omega arith)

-- of a node behind others
module _ (nodes : List Node) (node : Node) where
  -- the slot of its place
  abbrev its : ℕ
  its = slot_of node.place

  -- the last in a slot without it, and with it
  abbrev without : ℕ → Option ℕ
  without slot = last_in slot (places_of nodes) (length nodes)

  abbrev with_it : ℕ → Option ℕ
  with_it slot = last_in slot (places_of (nodes ++ node ∷ [])) (length (nodes ++ node ∷ []))

  -- a head written for its slot, and the others as they are
  heads_set : (heads : List (Option ℕ)) (v : Option ℕ) (told : ℕ → Option ℕ) → length heads ≡ 4096 → told its ≡ v
      → ((slot : ℕ) → slot < 4096 → its ≢ slot → get_or heads slot None ≡ told slot)
      → (slot : ℕ) → slot < 4096 → get_or (set heads its v) slot None ≡ told slot
  heads_set heads v told slots here others slot below =
      ⊎_elim
      (λ (same : its ≡ slot).
      let within : its < length heads = omega arith in
      subst (λ s. get_or (set heads its v) s None ≡ told s) same (get_or-set_same heads its v None within ∙ sym here))
      (λ (other : its ≡ slot → ⊥). get_or-set_other heads its slot v None (λ e. other (sym e)) ∙ others slot below other)
      (cases_eq its slot)

  -- in its slot it is the last, and in another it is not looked at
  last_here : with_it its ≡ Some (length nodes)
  last_here = last_in-push nodes node its ∙ cond-true (eqb its its) (Some (length nodes)) (without its) (eq-eqb its its refl)

  last_there : (slot : ℕ) → its ≢ slot → with_it slot ≡ without slot
  last_there slot other = last_in-push nodes node slot ∙ cond-false (eqb its slot) (Some (length nodes)) (without slot) (ne_eqb its slot other)

  -- an older one, with it
  older_too : node.older ≡ without its → (n : ℕ) (x : Node) → slice_get (nodes ++ node ∷ []) n ≡ Some x
      → ((n : ℕ) (x : Node) → slice_get nodes n ≡ Some x → x.older ≡ last_in (slot_of x.place) (places_of nodes) n)
      → x.older ≡ last_in (slot_of x.place) (places_of (nodes ++ node ∷ [])) n
  older_too older n x at olders =
      let n_in = slice_get_within (nodes ++ node ∷ []) n x at in
      let more = length_push nodes node in
      ⊎_elim
      (λ (before : n < length nodes).
      olders n x (sym (get_before nodes node x n before) ∙ at) ∙ sym (last_in-before nodes node (slot_of x.place) n (omega arith)))
      (λ (last : length nodes ≤ n).
      let n_is : length nodes ≡ n = omega arith in
      let x_is = same_Some node x (sym (get_last nodes node) ∙ ap (slice_get (nodes ++ node ∷ [])) n_is ∙ at) in
      let same = last_in-before nodes node its (length nodes) (omega arith) in
      subst (λ y. y.older ≡ last_in (slot_of y.place) (places_of (nodes ++ node ∷ [])) n) x_is
      (subst (λ m. node.older ≡ last_in its (places_of (nodes ++ node ∷ [])) m) n_is (older ∙ sym same)))
      (cases_lt n (length nodes))

  -- one place more
  pub one_more : (heads : List (Option ℕ)) → Chained nodes heads → node.older ≡ without its
      → Chained (nodes ++ node ∷ []) (set heads its (Some (length nodes)))
  one_more heads h older = record {
    slots = length-set heads its (Some (length nodes)) ∙ h.slots;
    head_is_last = heads_set heads (Some (length nodes)) with_it h.slots last_here
        (λ slot below other. h.head_is_last slot below ∙ sym (last_there slot other));
    older_is_last = λ n x at. older_too older n x at h.older_is_last;
  }

  -- one place less
  pub one_less : (heads : List (Option ℕ)) → Chained (nodes ++ node ∷ []) heads → Chained nodes (set heads its node.older)
  one_less heads h = record {
    slots = length-set heads its node.older ∙ h.slots;
    head_is_last = heads_set heads node.older without h.slots
        (sym (h.older_is_last (length nodes) node (get_last nodes node) ∙ last_in-before nodes node its (length nodes) (omega arith)))
        (λ slot below other. h.head_is_last slot below ∙ last_there slot other);
    older_is_last = λ n x at. let n_in = slice_get_within nodes n x at in
        h.older_is_last n x (get_before nodes node x n n_in ∙ at) ∙ last_in-before nodes node (slot_of x.place) n (omega arith);
  }
