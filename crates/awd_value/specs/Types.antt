-- The types of user attributes' values, by number, and their sizes. Assumes nothing.
use Rattle.std.specs.Prelude.{◌≡◌, ℕ, Bool, true, false, cond, ◌||◌, is_some, Some, None, Option, Result, MatchResult, ◌==◌, List, ◌++◌, codes}
use Rattle.std.specs.Fmt.{decimal}
use Rattle.awd_value.specs.declared.types.ValueType.{ValueType}
use Rattle.awd_value.specs.declared.types.ValueType.TheVariants as type
use Rattle.awd_value.specs.declared.types.UnknownType.{UnknownType}

-- the number of a type
abbrev pub type_number : ValueType → ℕ
type_number type.Int8 = 1
type_number type.Int16 = 2
type_number type.Int32 = 3
type_number type.Uint8 = 4
type_number type.Uint16 = 5
type_number type.Uint32 = 6
type_number type.Float32 = 7
type_number type.Float64 = 8
type_number type.Bool = 21
type_number type.Colour = 22
type_number type.Address = 23
type_number type.Text = 31
type_number type.Raw = 32

-- the size of a value, where its type fixes one: signed numbers are 1, 2, 3, unsigned ones 4, 5, 6, floats 7 and 8, yes or no 21, a colour
-- 22, an ID 23
abbrev pub fixed_size : ℕ → Option ℕ
fixed_size t =
    cond (t == 1 || t == 4 || t == 21) (Some 1)
    (cond (t == 2 || t == 5) (Some 2)
    (cond (t == 3 || t == 6 || t == 7 || t == 22 || t == 23) (Some 4)
    (cond (t == 8) (Some 8) None)))

-- a text (31) and raw bytes (32) have any size
abbrev pub any_size : ℕ → Bool
any_size t = t == 31 || t == 32

-- whether a size is the one that is fixed
abbrev pub fits : Option ℕ → ℕ → Bool
fits None n = false
fits (Some size) n = n == size

-- whether a value of a type may have a size
abbrev pub suits : ℕ → ℕ → Bool
suits t n = any_size t || fits (fixed_size t) n

-- whether there is a type of a number
abbrev pub known : ℕ → Bool
known t = any_size t || is_some (fixed_size t)

-- the type that a number stands for, or an error with the number where there is no such type
abbrev pub StandsFor : ℕ → Result ValueType UnknownType → Type 0
StandsFor number r =
    MatchResult r (λ t. (type_number t ≡ number) × (known number ≡ true)) (λ e. (e.0 ≡ number) × (known number ≡ false))

-- what a number that stands for no type is told by
abbrev pub unknown_text : ℕ → List ℕ
unknown_text number = codes "no type of value has number " ++ decimal number
