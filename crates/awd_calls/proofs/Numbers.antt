-- What is read of a word of digits.
use Rattle.std.proofs.Common.{◌≡◌, ℕ, ◌^◌, ◌<◌, Bool, true, false, cond, List, [], ◌∷◌, length, Some, None, Option, Result, Ok, Err, ◌==◌, nat_lt, Fits, w32, refl, sym, ap, ◌∙◌, arith}
use Rattle.std.specs.Char.{digit_value, is_ascii_digit, is_ascii_hexdigit}
use Rattle.std.specs.List.{list_all}
use Rattle.std.specs.Result.{result_ok, OkIff}
use Rattle.std.specs.Str.Parse.{AllDigits, IsNumeral, digits_value, without_leading_plus, ParsesUnsigned}
use Rattle.std.proofs.lemmas.Bool.{cond_both, cond-true, and_parts, lt-ltb, ltb-true, eqb-true}
use Rattle.std.proofs.lemmas.Bool.Decides.{nat_tests}
use Rattle.std.proofs.lemmas.Grind.{common_steps}
use Rattle.std.proofs.lemmas.Int.Digits.{digits_value-lt}
use Rattle.std.proofs.Math.Facts.{Fits-of_lt}
use Rattle.awd_calls.specs.Lines.{fitting, numeral, bits_of}

-- a digit has a value below its base, and is no plus
abbrev Means : ℕ → (ℕ → Bool) → Type 0
Means base is_digit = (c : ℕ) → is_digit c ≡ true → (digit_value c < base) × ((c == 43) ≡ false)

decimal_means : Means 10 is_ascii_digit
decimal_means c is = grind (arith, common_steps, nat_tests)

hexadecimal_means : Means 16 is_ascii_hexdigit
hexadecimal_means c is = grind (arith, common_steps, nat_tests)

module _ (base : ℕ) (is_digit : ℕ → Bool) (means : Means base is_digit) where
  -- a word of digits, by std's words
  all_digits : (ds : List ℕ) → list_all is_digit ds ≡ true → AllDigits base ds
  all_digits [] are = tt
  all_digits (c ∷ cs) are =
      let (first, others) = and_parts (is_digit c) (list_all is_digit cs) are in
      ((means c first).0, all_digits cs others)

  -- such a word has no plus in front, which std would take
  no_plus : (ds : List ℕ) → list_all is_digit ds ≡ true → without_leading_plus ds ≡ ds
  no_plus [] are = refl
  no_plus (c ∷ cs) are = rw (means c (and_parts (is_digit c) (list_all is_digit cs) are).0).1 refl

  -- what parsing gives where the digits are looked at first
  parsed : {E : Type 0} (bits : ℕ) (ds : List ℕ) (r : Result ℕ E)
      → OkIff r (IsNumeral base ds × (digits_value base ds < 2 ^ bits)) (digits_value base ds) → AllDigits base ds
      → result_ok r ≡ cond (nat_lt 0 (length ds)) (fitting bits (digits_value base ds)) None
  parsed bits ds (Ok x) (((some, digits), fits), is) digit =
      ap Some is ∙ sym (cond-true _ (fitting bits (digits_value base ds)) _ (lt-ltb 0 (length ds) some) ∙ cond-true _ _ _ (lt-ltb (digits_value base ds) (2 ^ bits) fits))
  parsed bits ds (Err e) lacks digit =
      cond_both (nat_lt 0 (length ds)) (fitting bits (digits_value base ds)) None (λ w. None ≡ w)
      (λ some. cond_both (nat_lt (digits_value base ds) (2 ^ bits)) (Some (digits_value base ds)) None (λ w. None ≡ w)
      (λ fits. absurd (lacks ((ltb-true 0 (length ds) some, digit), ltb-true (digits_value base ds) (2 ^ bits) fits))) (λ n. refl)) (λ n. refl)

  read : {E : Type 0} (bits : ℕ) (ds : List ℕ) (r : Result ℕ E) → ParsesUnsigned bits base ds r → list_all is_digit ds ≡ true
      → result_ok r ≡ numeral base is_digit bits ds
  read bits ds r parses are =
      parsed bits ds r (rw (no_plus ds are) at parses) (all_digits ds are) ∙ sym (cond-true (list_all is_digit ds) _ _ are)

pub read_decimal : {E : Type 0} (ds : List ℕ) (r : Result ℕ E) → ParsesUnsigned 64 10 ds r → list_all is_ascii_digit ds ≡ true
    → result_ok r ≡ numeral 10 is_ascii_digit 64 ds
read_decimal = read 10 is_ascii_digit decimal_means 64

pub read_hexadecimal : {E : Type 0} (ds : List ℕ) (r : Result ℕ E) → ParsesUnsigned 64 16 ds r → list_all is_ascii_hexdigit ds ≡ true
    → result_ok r ≡ numeral 16 is_ascii_hexdigit 64 ds
read_hexadecimal = read 16 is_ascii_hexdigit hexadecimal_means 64

-- eight hexadecimal digits have 32 bits
pub few_bits : (ds : List ℕ) (v : ℕ) → bits_of 8 ds ≡ Some v → Fits w32 v
few_bits ds v =
    let P : Option ℕ → Type 0 = λ w. w ≡ Some v → Fits w32 v in
    let value = digits_value 16 ds in
    let sized = fitting 64 value in
    cond_both (length ds == 8) (numeral 16 is_ascii_hexdigit 64 ds) None P
    (λ eight. cond_both (list_all is_ascii_hexdigit ds) (cond (nat_lt 0 (length ds)) sized None) None P
    (λ are. cond_both (nat_lt 0 (length ds)) sized None P
    (λ some. cond_both (nat_lt value (2 ^ 64)) (Some value) None P
    (λ small is.
    let below = rw (eqb-true (length ds) 8 eight) at (digits_value-lt 16 ds (all_digits 16 is_ascii_hexdigit hexadecimal_means ds are)) in
    let same : value ≡ v = cc is in
    Fits-of_lt (rw same at below))
    (λ n is. absurd (cc is))) (λ n is. absurd (cc is))) (λ n is. absurd (cc is))) (λ n is. absurd (cc is))
