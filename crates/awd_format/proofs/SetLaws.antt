-- In which sets no member begins another, and how a run is cut.
use Rattle.std.proofs.Common.{◌≡◌, ℕ, zero, suc, ◌+◌, ◌-◌, ◌<◌, List, [], ◌∷◌, ◌++◌, length, sym, refl, ap, ◌∙◌, subst, add-zero, arith, length-append}
use Rattle.std.proofs.lemmas.List.{nil_from_length, append_assoc, append-nil}
use Rattle.std.proofs.lemmas.List.Concat.{flat_map-append}
use Rattle.awd_format.specs.Sets.{NoneBegins, Wide, Then, Members, in_row, Counted, Measured}
use Rattle.awd_format.proofs.Standing.{begins-one}

-- sets whose members all have one length
pub free-sized : (n : ℕ) (P : List ℕ → Type 0) → ((m : List ℕ) → P m → length m ≡ n) → NoneBegins P
free-sized n P size m t p q = nil_from_length t (omega (arith, size m p, size (m ++ t) q, length-append m t))

pub free-wide : (n : ℕ) → NoneBegins (Wide n)
free-wide n = free-sized n (Wide n) (λ m p. p)

pub free-then : (P : List ℕ → Type 0) (Q : List ℕ → List ℕ → Type 0) → NoneBegins P → ((m : List ℕ) → P m → NoneBegins (Q m)) → NoneBegins (Then P Q)
free-then P Q fp fq bs t (m, u, is, p, q) (n, v, is', p', q') =
    let e : m ++ (u ++ t) ≡ n ++ v = sym (ap (λ x. x ++ t) is ∙ append_assoc m u t) ∙ is' in
    let one = begins-one P fp m (u ++ t) n v p p' e in
    fq m p u t q (subst (λ x. Q m x) (sym one.1) (subst (λ x. Q x v) (sym one.0) q'))

-- what begins with a number of at least a byte is not empty
pub filled-then : (n : ℕ) (Q : List ℕ → List ℕ → Type 0) → Then (Wide (suc n)) Q [] → ⊥
filled-then n Q (m, t, is, p, q) = omega (arith, ap length is, length-append m t, p)

-- nor is what begins with a member that is not
pub filled_more : (P : List ℕ → Type 0) (Q : List ℕ → List ℕ → Type 0) → (P [] → ⊥) → Then P Q [] → ⊥
filled_more P Q filled (m, t, is, p, q) = filled (subst P (nil_from_length m (omega (arith, ap length is, length-append m t))) p)

module _ (M : ℕ → List ℕ → Type 0) where
  pub counted_none : (i : ℕ) → Counted M i 0 []
  counted_none i = ([], refl, refl, tt)

  pub counted-more : (i n : ℕ) (bs m t : List ℕ) → bs ≡ m ++ t → M i m → Counted M (i + 1) n t → Counted M i (suc n) bs
  counted-more i n bs m t is p (ms, row, len, rest) = (m ∷ ms, is ∙ ap (λ x. m ++ x) row, ap suc len, (p, rest))

  -- of a run with entries left, the first and the others
  pub counted-first : (i n : ℕ) (bs : List ℕ) → Counted M i (suc n) bs → Then (M i) (λ _. Counted M (i + 1) n) bs
  counted-first i n bs ([], row, len, rest) = absurd (omega arith)
  counted-first i n bs (m ∷ ms, row, len, rest) = (m, in_row ms, row, rest.0, (ms, refl, omega arith, rest.1))

  counted-nil : (i : ℕ) (bs : List ℕ) → Counted M i 0 bs → bs ≡ []
  counted-nil i bs ([], row, len, rest) = row
  counted-nil i bs (m ∷ ms, row, len, rest) = absurd (omega arith)

  pub counted-free : ((i : ℕ) → NoneBegins (M i)) → (n i : ℕ) → NoneBegins (Counted M i n)
  counted-free free zero i m t p q =
      nil_from_length t (omega (arith, ap length (counted-nil i m p), ap length (counted-nil i (m ++ t) q), length-append m t))
  counted-free free (suc n) i m t p q =
      free-then (M i) (λ _. Counted M (i + 1) n) (free i) (λ _ _. counted-free free n (i + 1)) m t (counted-first i n m p) (counted-first i n (m ++ t) q)

  -- one entry more, behind the others
  members-push : (j : ℕ) (ms : List (List ℕ)) (m : List ℕ) → Members M j ms → M (j + length ms) m → Members M j (ms ++ m ∷ [])
  members-push j [] m p q = (subst (λ i. M i m) (add-zero j) q, tt)
  members-push j (n ∷ ms) m p q =
      let i : j + suc (length ms) ≡ j + 1 + length ms = omega arith in
      (p.0, members-push (j + 1) ms m p.1 (subst (λ k. M k m) i q))

  pub counted-push : (n : ℕ) (bs m : List ℕ) → Counted M 0 n bs → M n m → Counted M 0 (n + 1) (bs ++ m)
  counted-push n bs m (ms, row, len, rest) p =
      let i : n ≡ 0 + length ms = omega arith in
      (ms ++ m ∷ [], rw (flat_map-append, append-nil) (ap (λ x. x ++ m) row), omega (arith, length-append ms (m ∷ [])), members-push 0 ms m rest (subst (λ k. M k m) i p))

  pub measured-none : (i : ℕ) → Measured M i 0 []
  measured-none i = ([], refl, refl, tt)

  pub measured-more : (i size : ℕ) (bs m t : List ℕ) → bs ≡ m ++ t → M i m → Measured M (i + 1) size t → Measured M i (length m + size) bs
  measured-more i size bs m t is p (ms, row, len, rest) =
      (m ∷ ms, is ∙ ap (λ x. m ++ x) row, omega (arith, ap length is, length-append m t), (p, rest))

  pub measured-first : (i size : ℕ) (bs : List ℕ) → 0 < size → Measured M i size bs → Then (M i) (λ m. Measured M (i + 1) (size - length m)) bs
  measured-first i size bs lt ([], row, len, rest) = absurd (omega (arith, ap length row))
  measured-first i size bs lt (m ∷ ms, row, len, rest) =
      (m, in_row ms, row, rest.0, (ms, refl, omega (arith, ap length row, length-append m (in_row ms)), rest.1))

  -- a run of entries that are not empty is cut in one way only
  pub one-cutting : ((i : ℕ) → M i [] → ⊥) → ((i : ℕ) → NoneBegins (M i)) → (i : ℕ) (ms ns : List (List ℕ)) → Members M i ms → Members M i ns → in_row ms ≡ in_row ns → ms ≡ ns
  one-cutting filled free i [] [] p q e = refl
  one-cutting filled free i [] (n ∷ ns) p q e =
      absurd (filled i (subst (M i) (nil_from_length n (omega (arith, ap length e, length-append n (in_row ns)))) q.0))
  one-cutting filled free i (m ∷ ms) [] p q e =
      absurd (filled i (subst (M i) (nil_from_length m (omega (arith, ap length e, length-append m (in_row ms)))) p.0))
  one-cutting filled free i (m ∷ ms) (n ∷ ns) p q e =
      let one = begins-one (M i) (free i) m (in_row ms) n (in_row ns) p.0 q.0 e in
      let rest = one-cutting filled free (i + 1) ms ns p.1 q.1 one.1 in
      ap (λ x. x ∷ ms) one.0 ∙ ap (λ xs. n ∷ xs) rest
