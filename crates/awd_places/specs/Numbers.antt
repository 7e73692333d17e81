-- Places by number, as they are told inside the crate; no public contract names this. Assumes nothing.
use Rattle.std.specs.Prelude.{ℕ, zero, suc, ◌/◌, ◌%◌, Bool, cond, List, length, slice_index, Some, None, Option, ◌==◌, bit_xor}

-- the last among the first n of a list that passes a test
abbrev pub last_number : (ℕ → Bool) → List ℕ → ℕ → Option ℕ
last_number passes ps zero = None
last_number passes ps (suc n) = cond (passes (slice_index ps n)) (Some n) (last_number passes ps n)

-- the number of a place
abbrev pub number_of : List ℕ → ℕ → Option ℕ
number_of ps place = last_number (λ p. p == place) ps (length ps)

-- the slot of a place
abbrev pub slot_of : ℕ → ℕ
slot_of place = bit_xor place (place / 512) % 4096

-- the last in a slot, among the first n of some places
abbrev pub last_in : ℕ → List ℕ → ℕ → Option ℕ
last_in slot ps n = last_number (λ p. slot_of p == slot) ps n
