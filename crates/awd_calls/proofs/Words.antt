-- How a line goes into words.
use Rattle.std.proofs.Common.{◌≡◌, ◌≢◌, ℕ, suc, ◌<◌, true, false, cond, List, [], ◌∷◌, ◌++◌, length, None, ◌==◌, nat_lt, Bor, refl, sym, ap, ◌∙◌, append_assoc, length-append, arith}
use Rattle.std.proofs.lemmas.Bool.{cond-true, cond-false, lt-ltb, ne_eqb}
use Rattle.std.proofs.lemmas.List.{map-append, length-map}
use Rattle.std.specs.Prelude.{slice_index}
use Rattle.awd_calls.specs.Lines.{onto_first, words_of, few, texts}

-- no byte is a space
abbrev pub NoSpace : List ℕ → Type 0
NoSpace t = (i : ℕ) → i < length t → slice_index t i ≢ 32

-- what stands behind the first byte has no space either
others : (c : ℕ) (cs : List ℕ) → NoSpace (c ∷ cs) → NoSpace cs
others c cs none i lt = none (suc i) (omega (arith, lt))

-- a byte that is no space goes to the first word
no_space_first : (c : ℕ) (cs : List ℕ) → c ≢ 32 → words_of (c ∷ cs) ≡ onto_first c (words_of cs)
no_space_first c cs differs = cond-false (c == 32) _ _ (ne_eqb c 32 differs)

-- text without a space is one word
pub one_word : (t : List ℕ) → NoSpace t → words_of t ≡ t ∷ []
one_word [] none = refl
one_word (c ∷ cs) none =
    no_space_first c cs (none 0 (omega arith)) ∙ ap (onto_first c) (one_word cs (others c cs none))

-- what stands before the first space is the first word
pub first_word : (front back : List ℕ) → NoSpace front → words_of (front ++ 32 ∷ back) ≡ front ∷ words_of back
first_word [] back none = refl
first_word (c ∷ cs) back none =
    no_space_first c (cs ++ 32 ∷ back) (none 0 (omega arith)) ∙ ap (onto_first c) (first_word cs back (others c cs none))

-- a byte in front leaves a word
onto_some : (c : ℕ) (ws : List (List ℕ)) → 0 < length (onto_first c ws)
onto_some c [] = omega arith
onto_some c (w ∷ ws) = omega arith

-- every line has a word
some_word : (t : List ℕ) → 0 < length (words_of t)
some_word [] = omega arith
some_word (c ∷ cs) =
    elim (c == 32) as (λ b. 0 < length (cond b ([] ∷ words_of cs) (onto_first c (words_of cs)))) [
      | true ↦ omega arith
      | false ↦ onto_some c (words_of cs)
    ]

module _ (line rest : List ℕ) (ws : List (Bor (List ℕ))) (so_far : words_of line ≡ texts ws ++ words_of rest) where
  -- one word more
  pub going_on : (w : Bor (List ℕ)) (more : List ℕ) → rest ≡ w.now ++ 32 ∷ more → NoSpace w.now
      → words_of line ≡ texts (ws ++ w ∷ []) ++ words_of more
  going_on w more is none =
      so_far ∙ ap (λ t. texts ws ++ words_of t) is ∙ ap (λ l. texts ws ++ l) (first_word w.now more none)
      ∙ sym (append_assoc (texts ws) (w.now ∷ []) (words_of more))
      ∙ ap (λ l. l ++ words_of more) (sym (map-append (λ (b : Bor (List ℕ)). b.now) ws (w ∷ [])))

  -- the last
  pub at_end : (w : Bor (List ℕ)) → rest ≡ w.now → NoSpace rest → words_of line ≡ texts (ws ++ w ∷ [])
  at_end w is none =
      so_far ∙ ap (λ l. texts ws ++ l) (one_word rest none ∙ ap (λ t. t ∷ []) is) ∙ sym (map-append (λ (b : Bor (List ℕ)). b.now) ws (w ∷ []))

  -- five, and one more
  pub too_many : length ws ≡ 5 → few (words_of line) ≡ None
  too_many five =
      cond-true (nat_lt 5 (length (words_of line))) _ _ (lt-ltb 5 (length (words_of line))
      (omega (arith, ap length so_far, length-append (texts ws) (words_of rest), length-map ws (λ (b : Bor (List ℕ)). b.now), five, some_word rest)))
