-- How std pads hexadecimal digits.
use Rattle.std.proofs.Common.{◌≡◌, ℕ, ◌^◌, ◌-◌, false, [], append-nil, rules}
use Rattle.std.specs.Fmt.{digits, padded_integral, format_spec, char_count}
use Rattle.awd_calls.specs.Texts.{hexadecimal}

pub padded_hexadecimal : (k n : ℕ) → padded_integral (format_spec 32 0 4 k (2 ^ 64 - 1)) false [] (digits 16 false n) ≡ hexadecimal k n
unfolding padded_integral char_count
padded_hexadecimal k n = search (rules, append-nil)
