-- Numbers of 16 bits, little-endian, that stand one after another in some bytes. Assumes nothing.
use Rattle.std.specs.Prelude.{ℕ, ◌+◌, ◌*◌, cond, List, [], ◌∷◌, Some, None, Option, nat_lt}
use Rattle.std.specs.Option.{option_map}

-- the place of the first that is not below a limit, if there is one; a last byte alone is no number
abbrev pub first_not_below : ℕ → List ℕ → Option ℕ
first_not_below limit [] = None
first_not_below limit (a ∷ []) = None
first_not_below limit (a ∷ b ∷ bs) = cond (nat_lt (a + 256 * b) limit) (option_map (λ p. p + 2) (first_not_below limit bs)) (Some 0)
