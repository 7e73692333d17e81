-- That an input needs to be read no further than one byte more than may be listed.
use Rattle.std.proofs.Common.{◌≡◌, ℕ, ◌+◌, ◌<◌, ◌++◌, List, length, take, cond, ltb, ap, sym, ◌∙◌, arith, inl, inr}
use Rattle.std.specs.Prelude.{codes}
use Rattle.std.proofs.lemmas.Bool.{cond-true, cases_lt, lt-ltb}
use Rattle.std.proofs.lemmas.List.{length-take, take_all}
use Rattle.awd_session.specs.State.{fresh, open_answer}
use Rattle.awd_listing.specs.Listing.{newline, document_text, listing_of}

-- what is told of a list by its length alone where that is above a limit
cut_same : {A : Type 0} (limit : ℕ) (told : A) (f : List ℕ → A) (xs : List ℕ)
    → cond (ltb limit (length (take (limit + 1) xs))) told (f (take (limit + 1) xs)) ≡ cond (ltb limit (length xs)) told (f xs)
cut_same limit told f xs = elim (cases_lt limit (length xs)) [
  | inl more ↦
      let cut : limit < length (take (limit + 1) xs) = omega (arith, length-take (limit + 1) xs, more) in
      cond-true _ _ _ (lt-ltb limit (length (take (limit + 1) xs)) cut) ∙ sym (cond-true _ _ _ (lt-ltb limit (length xs) more))
  | inr few ↦ ap (λ ys. cond (ltb limit (length ys)) told (f ys)) (take_all (limit + 1) xs (omega (arith, few)))
]

-- an input lists the same as its first 65,537 bytes
pub cut_listed : (xs : List ℕ) → listing_of (take 65537 xs) ≡ listing_of xs
cut_listed xs = cut_same 65536 (codes "input over 65536" ++ newline) (λ b. document_text (fresh b) (open_answer (fresh b))) xs
