-- Bytes laid at places, as a list of them with the latest first, each with its place. Assumes nothing.
use Rattle.std.specs.Prelude.{ℕ, cond, List, [], ◌∷◌, length, Some, None, Option, nat_lt, ◌==◌}

-- the byte laid latest at a place, or none where none is laid
abbrev pub laid_at : List (ℕ × ℕ) → ℕ → Option ℕ
laid_at [] place = None
laid_at (l ∷ older) place = cond (l.0 == place) (Some l.1) (laid_at older place)

-- one byte more, where there are fewer than 2048
abbrev pub with_byte : List (ℕ × ℕ) → ℕ → ℕ → List (ℕ × ℕ)
with_byte ls place byte = cond (nat_lt (length ls) 2048) ((place, byte) ∷ ls) ls
