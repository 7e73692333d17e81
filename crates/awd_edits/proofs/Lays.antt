-- Bytes laid over others: what they leave at a place, in a part, and behind them.
use Rattle.std.proofs.Common.{◌≡◌, ℕ, suc, zero, ◌+◌, ◌-◌, ◌^◌, ◌<◌, ◌≤◌, ◌⊎◌, List, [], ◌∷◌, length, get_or, set, take, drop, sym, refl, ap, ◌∙◌, inl, inr, arith}
use Rattle.std.specs.Int.{w32, w64, to_le_bytes}
use Rattle.std.proofs.lemmas.List.{length-set, get_or-set_same, get_or-set_other, take-set-le, drop-set-lt, drop-set-add, drop-take, same_lists, get_or_default}
use Rattle.std.proofs.Math.Seq.{take-set-lt}
use Rattle.std.proofs.lemmas.Nat.{from_le_bytes-to_le_bytes_4, from_le_bytes-to_le_bytes_8}
use Rattle.awd_source.specs.Bytes.{part, le}
use Rattle.awd_source.proofs.Parts.{length_part, part_byte}
use Rattle.awd_edits.specs.declared.edit.Edit.{Edit}
use Rattle.awd_edits.specs.Overlay.{lay, bytes_laid, overlay}

-- laid bytes leave the length
pub length_lay : (B : List ℕ) (p : ℕ) (vs : List ℕ) → length (lay B p vs) ≡ length B
length_lay B p [] = refl
length_lay B p (v ∷ vs) = length-set (lay B (p + 1) vs) p v ∙ length_lay B (p + 1) vs

-- and so do edits, one after another
pub length_overlay : (B : List ℕ) (es : List Edit) → length (overlay B es) ≡ length B
length_overlay B [] = refl
length_overlay B (e ∷ es) = length_lay (overlay B es) e.place (bytes_laid e.laid) ∙ length_overlay B es

-- a place that none of them is laid at keeps its byte
pub lay_outside : (B : List ℕ) (p : ℕ) (vs : List ℕ) (i : ℕ) → (i < p) ⊎ (p + length vs ≤ i) → get_or (lay B p vs) i 0 ≡ get_or B i 0
lay_outside B p [] i h = refl
lay_outside B p (v ∷ vs) i (inl h) = get_or-set_other (lay B (p + 1) vs) p i v 0 (λ e. omega arith) ∙ lay_outside B (p + 1) vs i (inl (omega arith))
lay_outside B p (v ∷ vs) i (inr h) = get_or-set_other (lay B (p + 1) vs) p i v 0 (λ e. omega arith) ∙ lay_outside B (p + 1) vs i (inr (omega arith))

-- each of them stands in its place
pub lay_inside : (B : List ℕ) (p : ℕ) (vs : List ℕ) (i : ℕ) → i < length vs → p + i < length B → get_or (lay B p vs) (p + i) 0 ≡ get_or vs i 0
lay_inside B p [] i h w = absurd (omega arith)
lay_inside B p (v ∷ vs) zero h w =
    let l = length_lay B (p + 1) vs in
    let z : p + 0 ≡ p = omega arith in
    rw z (get_or-set_same (lay B (p + 1) vs) p v 0 (omega arith))
lay_inside B p (v ∷ vs) (suc i) h w =
    let z : p + suc i ≡ p + 1 + i = omega arith in
    rw z (get_or-set_other (lay B (p + 1) vs) p (p + 1 + i) v 0 (λ e. omega arith) ∙ lay_inside B (p + 1) vs i (omega arith) (omega arith))

-- lists of one length with the same byte at each place are the same
by_bytes : (xs ys : List ℕ) → length xs ≡ length ys → ((k : ℕ) → k < length xs → get_or xs k 0 ≡ get_or ys k 0) → xs ≡ ys
by_bytes xs ys l same = same_lists xs ys l (λ k d h. get_or_default xs k d 0 h ∙ same k h ∙ get_or_default ys k 0 d (omega arith))

-- what was laid is read again
pub part_lay : (B : List ℕ) (p : ℕ) (vs : List ℕ) → p + length vs ≤ length B → part (lay B p vs) p (length vs) ≡ vs
part_lay B p vs h =
    let l = length_lay B p vs in
    let m = length_part (lay B p vs) p (length vs) (omega arith) in
    by_bytes _ vs m (λ k w. part_byte (lay B p vs) p (length vs) k (omega arith) ∙ lay_inside B p vs k (omega arith) (omega arith))

-- the bytes before them stay
take_before : (B : List ℕ) (p : ℕ) (vs : List ℕ) (n : ℕ) → n ≤ p → take n (lay B p vs) ≡ take n B
take_before B p [] n h = refl
take_before B p (v ∷ vs) n h = take-set-le n (lay B (p + 1) vs) p v h ∙ take_before B (p + 1) vs n (omega arith)

-- and so do those behind them
pub drop_behind : (B : List ℕ) (p : ℕ) (vs : List ℕ) (at : ℕ) → p + length vs ≤ at → drop at (lay B p vs) ≡ drop at B
drop_behind B p [] at h = refl
drop_behind B p (v ∷ vs) at h = drop-set-lt at (lay B (p + 1) vs) p v (omega arith) ∙ drop_behind B (p + 1) vs at (omega arith)

-- a part that they do not touch stays
pub part_away : (B : List ℕ) (p : ℕ) (vs : List ℕ) (at n : ℕ) → (at + n ≤ p) ⊎ (p + length vs ≤ at) → part (lay B p vs) at n ≡ part B at n
part_away B p vs at n (inl h) = sym (drop-take at n (lay B p vs)) ∙ ap (drop at) (take_before B p vs (at + n) h) ∙ drop-take at n B
part_away B p vs at n (inr h) = ap (take n) (drop_behind B p vs at h)

-- a part around a byte that is written
part_set : (L : List ℕ) (p v at n : ℕ) → at ≤ p → p < at + n → part (set L p v) at n ≡ set (part L at n) (p - at) v
part_set L p v at n h w =
    let q : p ≡ at + (p - at) = omega arith in
    ap (λ x. part (set L x v) at n) q ∙ ap (take n) (drop-set-add at L (p - at) v) ∙ take-set-lt n (drop at L) (p - at) v (omega arith)

-- a part around them is that part of the old bytes with them laid over it
pub part_around : (B : List ℕ) (p : ℕ) (vs : List ℕ) (at n : ℕ) → at ≤ p → p + length vs ≤ at + n → at + n ≤ length B → part (lay B p vs) at n ≡ lay (part B at n) (p - at) vs
part_around B p [] at n h w m = refl
part_around B p (v ∷ vs) at n h w m =
    let q : p + 1 - at ≡ p - at + 1 = omega arith in
    let rest = part_around B (p + 1) vs at n (omega arith) (omega arith) m in
    part_set (lay B (p + 1) vs) p v at n h (omega arith) ∙ ap (λ L. set L (p - at) v) (rest ∙ ap (λ x. lay (part B at n) x vs) q)

-- a number is spelled by 4 or by 8 bytes
pub length_4 : (n : ℕ) → length (to_le_bytes w32 n) ≡ 4
length_4 n = refl

pub length_8 : (n : ℕ) → length (to_le_bytes w64 n) ≡ 8
length_8 n = refl

-- and read again it is the same
pub spelled_4 : (n : ℕ) → n < 2 ^ 32 → le (to_le_bytes w32 n) ≡ n
spelled_4 n h = omega (arith, from_le_bytes-to_le_bytes_4 n h)

pub spelled_8 : (n : ℕ) → n < 2 ^ 64 → le (to_le_bytes w64 n) ≡ n
spelled_8 n h = omega (arith, from_le_bytes-to_le_bytes_8 n h)
