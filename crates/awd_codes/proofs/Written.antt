-- A slice whose start is written over, one element after another.
use Rattle.std.proofs.Common.{◌≡◌, ℕ, ◌+◌, ◌<◌, ◌≤◌, List, [], ◌∷◌, ◌++◌, length, map, get_or, set, take, drop, Some, None, inl, inr, sym, refl, ap, ◌∙◌, arith}
use Rattle.std.specs.Prelude.{slice_get}
use Rattle.std.proofs.lemmas.List.{set_at, get_or_at, take_all, take_at, take_more, take-append-le, drop_more, drop_all, length-take-le, length-map, length-append, get_or-map, append_assoc}
use Rattle.std.proofs.lemmas.Option.{slice_get_within, get_or_from_slice_get, slice_get_cases}
use Rattle.awd_codes.specs.Writing.{over}

-- so many of xs are written, and behind them is what was there
abbrev pub Written : {A : Type 0} → List A → List A → ℕ → List A → Type 0
Written xs before i now = now ≡ take i xs ++ drop i before

module _ {A : Type 0} (xs before now : List A) (i : ℕ) (so_far : Written xs before i now) where
  -- one more
  pub written_more : (x d : A) → i < length xs → i < length before → x ≡ get_or xs i d → Written xs before (i + 1) (set now i x)
  written_more x d more room is =
      ap (λ ys. set ys i x) (so_far ∙ ap (λ ys. take i xs ++ ys) (drop_more before i d room))
      ∙ set_at (take i xs) (get_or before i d) (drop (i + 1) before) x i (length-take-le i xs (omega arith))
      ∙ ap (λ y. take i xs ++ y ∷ drop (i + 1) before) is
      ∙ sym (append_assoc (take i xs) (get_or xs i d ∷ []) (drop (i + 1) before))
      ∙ ap (λ ys. ys ++ drop (i + 1) before) (sym (take_more xs i d more))

  -- all of them
  pub written_all : length xs ≡ i → i ≤ length before → now ≡ over xs before
  written_all all room =
      so_far
      ∙ ap (λ ys. ys ++ drop i before) (take_all i xs (omega arith) ∙ sym (take_all (length before) xs (omega arith)))
      ∙ ap (λ k. take (length before) xs ++ drop k before) (sym all)

  -- as many as there was room for
  pub written_full : length before ≡ i → i ≤ length xs → now ≡ over xs before
  written_full full more =
      so_far
      ∙ ap (λ k. take k xs ++ drop i before) (sym full)
      ∙ ap (λ ys. take (length before) xs ++ ys) (drop_all i before (omega arith) ∙ sym (drop_all (length xs) before (omega arith)))

-- elements that are made of others, which are asked for by their index
module _ {A B : Type 0} (f : A → B) (xs : List A) (before now : List B) (i : ℕ) (so_far : Written (map f xs) before i now) where
  -- one more
  pub mapped_more : (x : A) (y : B) → slice_get xs i ≡ Some x → y ≡ f x → i < length before → (i < length (map f xs)) × Written (map f xs) before (i + 1) (set now i y)
  mapped_more x y found is room =
      let within = slice_get_within xs i x found in
      let more : i < length (map f xs) = omega (arith, length-map xs f) in
      let same : y ≡ get_or (map f xs) i y = is ∙ sym (get_or-map f xs i x y within ∙ ap f (get_or_from_slice_get xs i x x found)) in
      (more, written_more (map f xs) before now i so_far y y more room same)

  -- no more of them
  pub mapped_all : slice_get xs i ≡ None → i ≤ length (map f xs) → i ≤ length before → now ≡ over (map f xs) before
  mapped_all none within room =
      elim (slice_get_cases xs i).1 [
        | inl (x, _, found, _) ↦ absurd (cc (none, found))
        | inr (past, _) ↦ written_all (map f xs) before now i so_far (omega (arith, length-map xs f)) room
      ]

-- one thing more is written, or there is no room for it
module _ {A : Type 0} (xs before : List A) (x : A) where
  abbrev more : List A
  more = xs ++ x ∷ []

  long : length more ≡ length xs + 1
  long = length-append xs (x ∷ [])

  pub over_more : length xs < length before → set (over xs before) (length xs) x ≡ over more before
  over_more room =
      let n = length xs in
      let so_far : Written more before n (over xs before) = ap (λ ys. ys ++ drop n before) (take_all (length before) xs (omega arith) ∙ sym (take_at xs (x ∷ []) n refl)) in
      let is : x ≡ get_or more n x = sym (get_or_at xs x [] x n refl) in
      written_all more before (set (over xs before) n x) (n + 1) (written_more more before (over xs before) n so_far x x (omega (arith, long)) room is) long (omega arith)

  pub over_full : length before ≤ length xs → over xs before ≡ over more before
  over_full full =
      ap (λ ys. ys ++ drop (length xs) before) (sym (take-append-le (length before) xs (x ∷ []) full))
      ∙ ap (λ ys. take (length before) more ++ ys) (drop_all (length xs) before full ∙ sym (drop_all (length more) before (omega (arith, long))))
