-- What a line of text says: the call that it is, if it is one. Assumes nothing.
use Rattle.std.specs.Prelude.{ℕ, ◌^◌, Bool, cond, List, [], ◌∷◌, length, map, Some, None, Option, ◌==◌, nat_lt, codes, bytes_eq, from_bits}
use Rattle.std.specs.Borrow.{Bor}
use Rattle.std.specs.Char.{is_ascii_digit, is_ascii_hexdigit}
use Rattle.std.specs.Float.{binary32, binary64}
use Rattle.std.specs.List.{list_all}
use Rattle.std.specs.Option.{option_map, option_and_then}
use Rattle.std.specs.Str.Parse.{digits_value}
use Rattle.awd_contents.specs.declared.contents.Cell.{Cell}
use Rattle.awd_contents.specs.declared.contents.Cell.TheVariants.{Single, Double}
use Rattle.awd_calls.specs.declared.calls.Call as calls
use Rattle.awd_calls.specs.declared.calls.Call.TheVariants as call

-- a byte put in front of the first word
abbrev pub onto_first : ℕ → List (List ℕ) → List (List ℕ)
onto_first c [] = (c ∷ []) ∷ []
onto_first c (w ∷ ws) = (c ∷ w) ∷ ws

-- the words of a line: each space ends one, so two spaces have an empty word between them
abbrev pub words_of : List ℕ → List (List ℕ)
words_of [] = [] ∷ []
words_of (c ∷ cs) = cond (c == 32) ([] ∷ words_of cs) (onto_first c (words_of cs))

-- words, where they are five at most
abbrev pub few : List (List ℕ) → Option (List (List ℕ))
few ws = cond (nat_lt 5 (length ws)) None (Some ws)

-- the bytes of words
abbrev pub texts : List (Bor (List ℕ)) → List (List ℕ)
texts ws = map (λ w. w.now) ws

-- a number, if it has so many bits
abbrev pub fitting : ℕ → ℕ → Option ℕ
fitting bits v = cond (nat_lt v (2 ^ bits)) (Some v) None

-- the number that one digit or more of a base write, if it has so many bits
abbrev pub numeral : ℕ → (ℕ → Bool) → ℕ → List ℕ → Option ℕ
numeral base is_digit bits ds = cond (list_all is_digit ds) (cond (nat_lt 0 (length ds)) (fitting bits (digits_value base ds)) None) None

-- in decimal digits; leading zeros are allowed, and no sign
abbrev pub number_of : ℕ → List ℕ → Option ℕ
number_of bits ds = numeral 10 is_ascii_digit bits ds

-- in just so many hexadecimal digits
abbrev pub bits_of : ℕ → List ℕ → Option ℕ
bits_of digits ds = cond (length ds == digits) (numeral 16 is_ascii_hexdigit 64 ds) None

-- a single by 8 digits behind s, a double by 16 behind d
abbrev pub cell_of : List ℕ → List ℕ → Option Cell
cell_of width ds =
    cond (bytes_eq width (codes "s")) (option_map (λ v. Single (from_bits binary32 v)) (bits_of 8 ds))
    (cond (bytes_eq width (codes "d")) (option_map (λ v. Double (from_bits binary64 v)) (bits_of 16 ds)) None)

-- a call by its name alone
abbrev pub bare : List ℕ → Option calls.Call
bare name =
    cond (bytes_eq name (codes "open")) (Some call.Open)
    (cond (bytes_eq name (codes "next")) (Some call.Next)
    (cond (bytes_eq name (codes "undo")) (Some call.Undo)
    (cond (bytes_eq name (codes "count")) (Some call.Count)
    (cond (bytes_eq name (codes "edits")) (Some call.Edits)
    (cond (bytes_eq name (codes "length")) (Some call.Length) None)))))

-- with one word behind the name
abbrev pub with_one : List ℕ → List ℕ → Option calls.Call
with_one name first =
    cond (bytes_eq name (codes "record")) (option_map call.Record (number_of 64 first))
    (cond (bytes_eq name (codes "number")) (option_map call.NumberOf (number_of 32 first))
    (cond (bytes_eq name (codes "path")) (option_map call.Path (number_of 64 first))
    (cond (bytes_eq name (codes "byte")) (option_map call.Byte (number_of 64 first)) None)))

-- with two
abbrev pub with_two : List ℕ → List ℕ → List ℕ → Option calls.Call
with_two name first second =
    cond (bytes_eq name (codes "reparent")) (option_and_then (λ n. option_map (call.Reparent n) (number_of 32 second)) (number_of 64 first))
    (cond (bytes_eq name (codes "material")) (option_and_then (λ n. option_map (call.Material n) (number_of 64 second)) (number_of 64 first))
    (cond (bytes_eq name (codes "cell")) (option_and_then (λ n. option_map (call.Cell n) (number_of 64 second)) (number_of 64 first)) None))

-- with three
abbrev pub with_three : List ℕ → List ℕ → List ℕ → List ℕ → Option calls.Call
with_three name first second third =
    cond (bytes_eq name (codes "dress"))
    (option_and_then (λ n. option_and_then (λ i. option_map (call.Dress n i) (number_of 32 third)) (number_of 64 second)) (number_of 64 first)) None

-- with four
abbrev pub with_four : List ℕ → List ℕ → List ℕ → List ℕ → List ℕ → Option calls.Call
with_four name first second third fourth =
    cond (bytes_eq name (codes "nudge"))
    (option_and_then (λ n. option_and_then (λ i. option_map (call.Nudge n i) (cell_of third fourth)) (number_of 64 second)) (number_of 64 first)) None

-- the call that some words are: five at most
abbrev pub by_words : List (List ℕ) → Option calls.Call
by_words (name ∷ []) = bare name
by_words (name ∷ first ∷ []) = with_one name first
by_words (name ∷ first ∷ second ∷ []) = with_two name first second
by_words (name ∷ first ∷ second ∷ third ∷ []) = with_three name first second third
by_words (name ∷ first ∷ second ∷ third ∷ fourth ∷ []) = with_four name first second third fourth
by_words _ = None

-- the call that a line is
abbrev pub call_of : List ℕ → Option calls.Call
call_of line = by_words (words_of line)
