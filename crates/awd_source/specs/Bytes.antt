-- Bytes of a list, by place: one byte, a part, and the number that bytes spell. Assumes nothing.
use Rattle.std.specs.Prelude.{◌≡◌, ℕ, ◌+◌, ◌*◌, ◌<◌, ◌≤◌, cond, List, [], ◌∷◌, length, take, drop, Some, None, Option, nat_lt, slice_index}
use Rattle.std.specs.Borrow.{Bor}

-- the byte at a place, or none at or beyond the length
abbrev pub byte_at : List ℕ → ℕ → Option ℕ
byte_at bs at = cond (nat_lt at (length bs)) (Some (slice_index bs at)) None

-- the bytes from a place on, at most n of them
abbrev pub part : List ℕ → ℕ → ℕ → List ℕ
part bs at n = take n (drop at bs)

-- the number that bytes spell, little-endian: the lowest byte first
abbrev pub le : List ℕ → ℕ
le [] = 0
le (b ∷ bs) = b + 256 * le bs

-- the very part of s of n bytes at a place: its contents and its address; none if s does not hold it whole
abbrev pub VeryPart : Bor (List ℕ) → ℕ → ℕ → Option (Bor (List ℕ)) → Type 0
VeryPart s at n None = length s.now < at + n
VeryPart s at n (Some p) =
    (at + n ≤ length s.now) × (p.now ≡ part s.now at n) × (p.ref_ptr.0 ≡ s.ref_ptr.0) × (p.ref_ptr.1 ≡ s.ref_ptr.1 + at)
