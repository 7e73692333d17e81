-- What the bytes of a number say. Assumes nothing.
use Rattle.std.specs.Prelude.{ℕ, suc, ◌-◌, ◌*◌, ◌^◌, ◌<◌, Bool, cond, not, List, length, ℤ, pos, negsuc, Some, None, Option, ◌==◌, from_bits, nat_le, nat_lt, Float}
use Rattle.std.specs.Float.{binary32, binary64}
use Rattle.awd_source.specs.Bytes.{le}
use Rattle.awd_value.specs.declared.values.Number.{Number}
use Rattle.awd_value.specs.declared.values.Number.TheVariants.{Signed, Unsigned, Single, Double, YesNo}
use Rattle.awd_value.specs.Types.{fixed_size, fits}

-- a value of any of the kinds that there are
pub data Content : Type 0 where
  integer : ℤ → Content
  natural : ℕ → Content
  float : Float → Content
  truth : Bool → Content

-- which case a number is, by number, and its value: 1 signed, 2 unsigned, 3 a single and 4 a double float, 5 yes or no
abbrev pub told : Number → ℕ × Content
told (Signed z) = (1, integer z)
told (Unsigned n) = (2, natural n)
told (Single x) = (3, float x)
told (Double x) = (4, float x)
told (YesNo b) = (5, truth b)

-- the number that v, of so many bytes, is in two's complement
abbrev pub twos : ℕ → ℕ → ℤ
twos size v = cond (nat_lt v (2 ^ (8 * size - 1))) (pos v) (negsuc (2 ^ (8 * size) - suc v))

-- what the number v, of so many bytes, is as a value of a type that is no text and not raw
abbrev pub value_in : ℕ → ℕ → ℕ → ℕ × Content
value_in t size v =
    cond (nat_le t 3) (1, integer (twos size v))
    (cond (nat_le t 6) (2, natural v)
    (cond (t == 7) (3, float (from_bits binary32 v))
    (cond (t == 8) (4, float (from_bits binary64 v))
    (cond (t == 21) (5, truth (not (v == 0)))
    (2, natural v)))))

-- the value of bytes of a type, or none where the type has no such size or is no number's
abbrev pub value_of : ℕ → List ℕ → Option (ℕ × Content)
value_of t bs = cond (fits (fixed_size t) (length bs)) (Some (value_in t (length bs) (le bs))) None

-- v is small enough for a value of a type
abbrev pub Within : Option ℕ → ℕ → Type 0
Within None v = ⊥
Within (Some size) v = v < 256 ^ size

-- the size of values of a type, 0 where it is not fixed
abbrev pub size_or0 : Option ℕ → ℕ
size_or0 None = 0
size_or0 (Some size) = size
