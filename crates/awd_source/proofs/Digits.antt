-- Little-endian numbers, one byte at a time.
use Rattle.std.proofs.Common.{◌≡◌, ℕ, suc, ◌+◌, ◌-◌, ◌*◌, ◌^◌, ◌<◌, ◌≤◌, ◌⊎◌, List, length, get_or, take, drop, Ok, sym, ap, ◌∙◌, inl, inr, pow-suc, arith, lit<, length-drop}
use native.Mathlib.Nat.{pow-le-pow_right}
use Rattle.std.proofs.lemmas.List.{at_drop_more, take_all}
use Rattle.std.proofs.lemmas.Bool.{cond-true, le-leb}
use Rattle.awd_source.specs.Bytes.{le, part}
use Rattle.awd_source.specs.Fields.{number_at}

-- one byte more, before the others
pub le-more : (B : List ℕ) (p k : ℕ) → p < length B → le (part B p (suc k)) ≡ get_or B p 0 + 256 * le (part B (p + 1) k)
le-more B p k h = at_drop_more (λ x. le (take (suc k) x)) B p 0 h

pub below_more : (k v b : ℕ) → v < 256 ^ k → b < 256 → v * 256 + b < 256 ^ suc k
below_more k v b h l = omega (arith, pow-suc 256 k)

-- fewer than 8 bytes leave room for one more in 64 bits
pub room : (k v : ℕ) → k < 8 → v < 256 ^ k → v < 2 ^ 56
room k v h l = let m : 256 ^ k ≤ 256 ^ 7 = let few : k ≤ 7 = omega arith in pow-le-pow_right (lit< tt) few in omega arith

-- the bytes from p on, out of those from p + 1 on
pub turn : (B : List ℕ) (p q k v : ℕ) → p < length B → q ≡ p + 1 → v ≡ le (part B q k) → v * 256 + get_or B p 0 ≡ le (part B p (suc k))
turn B p q k v h is e =
    let t = le-more B p k h in
    let f : le (part B q k) ≡ le (part B (p + 1) k) = ap (λ x. le (part B x k)) is in
    omega (arith, t, e, f)

-- the number that fits is told
pub told : (B : List ℕ) (at end width v : ℕ) → at + width ≤ end → v ≡ le (part B at width) → Ok v ≡ number_at B at end width
told B at end width v fits is = sym (cond-true _ _ _ (le-leb (at + width) end fits) ∙ ap Ok (sym is))

-- bytes behind the end add nothing to a number
pub cut : (B : List ℕ) (at n k : ℕ) → k ≤ n → (k ≡ n) ⊎ (length B ≤ at + k) → le (part B at k) ≡ le (part B at n)
cut B at n k few (inl is) = ap (λ x. le (part B at x)) is
cut B at n k few (inr all) =
    let e : length (drop at B) ≤ k = rw length-drop (omega arith) in
    ap le (take_all k (drop at B) e ∙ sym (take_all n (drop at B) (omega arith)))

pub below_cut : (k n v : ℕ) → k ≤ n → v < 256 ^ k → v < 256 ^ n
below_cut k n v few h = let m : 256 ^ k ≤ 256 ^ n = pow-le-pow_right (lit< tt) few in omega arith

-- the bytes that are there, of those from a place on which may be behind the end
pub cut_short : (B : List ℕ) (at n start k : ℕ) → start ≤ at → start ≤ length B → (start ≡ at) ⊎ (start ≡ length B) → k ≡ length B - start → k ≤ n
    → le (part B start k) ≡ le (part B at n)
cut_short B at n start k before there (inl is) left few = ap (λ x. le (part B x k)) is ∙ cut B at n k few (inr (omega (arith, is, left)))
cut_short B at n start k before there (inr is) left few =
    let none : k ≡ 0 = omega (arith, is, left) in ap (λ x. le (part B start x)) none ∙ cut B at n 0 (omega arith) (inr (omega (arith, is, before)))
