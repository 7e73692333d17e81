-- The first index of 16 bits that is not below a limit.
use Rattle.std.proofs.Common.{◌≡◌, ℕ, zero, suc, ◌+◌, ◌*◌, ◌<◌, ◌≤◌, List, [], ◌∷◌, length, Some, None, sym, refl, ap, ◌∙◌, arith}
use Rattle.std.proofs.lemmas.Bool.{cond-true, cond-false, lt-ltb, le-ltb}
use Rattle.std.specs.Option.{option_map}
use Rattle.awd_source.specs.Bytes.{le, part}
use Rattle.awd_source.specs.Numbers.{first_not_below}

-- index k of some bytes
abbrev pub index : List ℕ → ℕ → ℕ
index m k = le (part m (2 * k) 2)

later : (a b : ℕ) (bs : List ℕ) (k : ℕ) → index (a ∷ b ∷ bs) (suc k) ≡ index bs k
later a b bs k = let e : 2 * suc k ≡ suc (suc (2 * k)) = omega arith in ap (λ x. le (part (a ∷ b ∷ bs) x 2)) e

module _ (limit : ℕ) where
  pub none_is : (m : List ℕ) → ((j : ℕ) → 2 * j + 1 < length m → index m j < limit) → None ≡ first_not_below limit m
  none_is [] small = refl
  none_is (a ∷ []) small = refl
  none_is (a ∷ b ∷ bs) small =
      let first = small 0 (omega arith) in
      let rest = none_is bs (λ j h. omega (arith, h, small (suc j) (omega (arith, h)), later a b bs j)) in
      sym (cond-true _ _ _ (lt-ltb (a + 256 * b) limit (omega (arith, first))) ∙ ap (option_map (λ p. p + 2)) (sym rest))

  pub first_is : (m : List ℕ) (k : ℕ) → 2 * k + 1 < length m → limit ≤ index m k → ((j : ℕ) → j < k → index m j < limit) → Some (2 * k) ≡ first_not_below limit m
  first_is [] k h large small = absurd (omega (arith, h))
  first_is (a ∷ []) k h large small = absurd (omega (arith, h))
  first_is (a ∷ b ∷ bs) zero h large small = sym (cond-false _ _ _ (le-ltb (a + 256 * b) limit (omega (arith, large))))
  first_is (a ∷ b ∷ bs) (suc k) h large small =
      let first = small 0 (omega arith) in
      let rest = first_is bs k (omega (arith, h)) (omega (arith, large, later a b bs k)) (λ j l. omega (arith, l, small (suc j) (omega (arith, l)), later a b bs j)) in
      let two : 2 * k + 2 ≡ 2 * suc k = omega arith in
      sym (cond-true _ _ _ (lt-ltb (a + 256 * b) limit (omega (arith, first))) ∙ ap (option_map (λ p. p + 2)) (sym rest) ∙ ap Some two)
