-- The last number that passes a test.
use Rattle.std.proofs.Common.{◌≡◌, ◌<◌, ◌≤◌, ℕ, zero, suc, Bool, true, false, cond, List, [], ◌∷◌, ◌++◌, length, get_or, Some, None, Option, refl, sym, ap, ◌∙◌, arith}
use Rattle.std.proofs.lemmas.Bool.{cond_both, cond-false, false_from_ne_true}
use Rattle.std.proofs.lemmas.List.{get_or_append_left, get_or_push}
use Rattle.std.proofs.lemmas.Option.{same_Some}
use Rattle.awd_places.specs.Numbers.{last_number}

-- of a test
module _ (f : ℕ → Bool) where
  -- what comes later changes nothing
  pub last_before : (xs ys : List ℕ) (n : ℕ) → n ≤ length xs → last_number f (xs ++ ys) n ≡ last_number f xs n
  last_before xs ys zero h = refl
  last_before xs ys (suc n) h =
      ap (λ x. cond (f x) (Some n) (last_number f (xs ++ ys) n)) (get_or_append_left xs ys 0 n (omega arith))
      ∙ ap (λ o. cond (f (get_or xs n 0)) (Some n) o) (last_before xs ys n (omega arith))

  -- one more is the last, if it passes
  pub last_push : (xs : List ℕ) (x n : ℕ) → length xs ≡ n
      → last_number f (xs ++ x ∷ []) (suc n) ≡ cond (f x) (Some n) (last_number f xs n)
  last_push xs x n is =
      ap (λ y. cond (f y) (Some n) (last_number f (xs ++ x ∷ []) n)) (get_or_push xs x 0 n is)
      ∙ ap (λ o. cond (f x) (Some n) o) (last_before xs (x ∷ []) n (omega arith))

  -- it is one of the first n
  pub last_below : (xs : List ℕ) (n m : ℕ) → last_number f xs n ≡ Some m → m < n
  last_below xs zero m e = absurd (cc e)
  last_below xs (suc n) m e =
      cond_both (f (get_or xs n 0)) (Some n) (last_number f xs n) (λ o. o ≡ Some m → m < suc n)
      (λ yes' is. omega (arith, same_Some n m is))
      (λ no' is. omega (arith, last_below xs n m is))
      e

  -- and it passes
  pub last_passes : (xs : List ℕ) (n m : ℕ) → last_number f xs n ≡ Some m → f (get_or xs m 0) ≡ true
  last_passes xs zero m e = absurd (cc e)
  last_passes xs (suc n) m e =
      cond_both (f (get_or xs n 0)) (Some n) (last_number f xs n) (λ o. o ≡ Some m → f (get_or xs m 0) ≡ true)
      (λ yes' is. rw (sym (same_Some n m is)) yes')
      (λ no' is. last_passes xs n m is)
      e

  -- the last at a number or before it, or none
  abbrev pub last_to : List ℕ → Option ℕ → Option ℕ
  last_to xs None = None
  last_to xs (Some n) = last_number f xs (suc n)

  -- where all that pass it pass another test too, those behind the last that passes the other may be left out
  pub last_skip : (g : ℕ → Bool) (xs : List ℕ) (n : ℕ) → ((x : ℕ) → f x ≡ true → g x ≡ true)
      → last_number f xs n ≡ last_to xs (last_number g xs n)
  last_skip g xs zero h = refl
  last_skip g xs (suc n) h =
      let x = get_or xs n 0 in
      cond_both (g x) (Some n) (last_number g xs n) (λ o. last_number f xs (suc n) ≡ last_to xs o)
      (λ yes'. refl)
      (λ no'.
      let fails : f x ≡ false = false_from_ne_true (f x) (λ passes. absurd (cc (no', h x passes))) in
      cond-false (f x) (Some n) (last_number f xs n) fails ∙ last_skip g xs n h)
