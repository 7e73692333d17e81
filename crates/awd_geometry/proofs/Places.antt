-- Places of streams in a run. Behind the run's end every place is as good as the end.
use Rattle.std.proofs.Common.{◌≡◌, ℕ, zero, suc, ◌+◌, ◌-◌, ◌<◌, ◌≤◌, min, cond, ltb, List, [], ◌∷◌, length, take, drop, sym, refl, ap, ◌∙◌, ⊎_elim, arith, length-drop, length-take}
use Rattle.std.proofs.lemmas.List.{drop_all}
use Rattle.std.proofs.lemmas.Bool.{cases_lt, cond-true, cond-false, lt-ltb, le-ltb}
use Rattle.awd_source.specs.Bytes.{part}
use Rattle.awd_geometry.specs.Flaws.{behind, places_within, places}

-- a part that begins behind the end has no bytes
pub part_cut : (m : List ℕ) (p q n : ℕ) → q ≡ min p (length m) → part m q n ≡ part m p n
part_cut m p q n is =
    ⊎_elim
    (λ (lt : p < length m). let same : q ≡ p = omega arith in ap (λ x. part m x n) same)
    (λ ge. ap (take n) (drop_all q m (omega arith) ∙ sym (drop_all p m ge)))
    (cases_lt p (length m))

pub inside-part : (m : List ℕ) (at n p : ℕ) → p < length (part m at n) → at + p < length m
inside-part m at n p h = omega (arith, h, length-take n (drop at m), length-drop at m)

module _ (m : List ℕ) where
  none-behind : (n p : ℕ) → length m ≤ p → places_within m n p ≡ []
  none-behind zero p ge = refl
  none-behind (suc n) p ge = cond-false (ltb p (length m)) _ _ (le-ltb p (length m) ge)

  -- turns beyond those that the bytes left can need change nothing
  turns : (n k p : ℕ) → length m - p ≤ n → length m - p ≤ k → places_within m n p ≡ places_within m k p
  turns zero k p few enough = sym (none-behind k p (omega arith))
  turns (suc n) zero p few enough = none-behind (suc n) p (omega arith)
  turns (suc n) (suc k) p few enough =
      ⊎_elim
      (λ (lt : p < length m). ap (λ ps. cond (ltb p (length m)) (p ∷ ps) []) (turns n k (behind m p) (omega arith) (omega arith)))
      (λ ge. none-behind (suc n) p ge ∙ sym (none-behind (suc k) p ge))
      (cases_lt p (length m))

  -- the next place is cut to the run's end
  cut : (p q : ℕ) → q ≡ min p (length m) → places m q ≡ places m p
  cut p q is =
      ⊎_elim
      (λ (lt : p < length m). let same : q ≡ p = omega arith in ap (places m) same)
      (λ ge. none-behind (length m) q (omega arith) ∙ sym (none-behind (length m) p ge))
      (cases_lt p (length m))

  pub next_is : (p q : ℕ) → p < length m → q ≡ min (behind m p) (length m) → places m p ≡ p ∷ places m q
  next_is p q lt is =
      turns (length m) (suc (length m)) p (omega arith) (omega arith) ∙ cond-true (ltb p (length m)) _ _ (lt-ltb p (length m) lt)
      ∙ ap (λ ps. p ∷ ps) (sym (cut (behind m p) q is))
