-- Which block has an ID, and how far a block is from the root. Assumes nothing.
use Rattle.std.specs.Prelude.{◌≡◌, ℕ, zero, suc, ◌+◌, cond, List, slice_get, position, Some, None, Option, ◌==◌}
use Rattle.std.specs.Option.{option_and_then}
use Rattle.awd_roster.specs.declared.record.Record.{Record}

-- the number of the first block with an ID; temporary blocks have none of their own
abbrev pub number_of : List Record → ℕ → Option ℕ
number_of rs id = cond (id == 0) None (position (λ r. r.id == id) rs)

-- the address of a block's parent
abbrev pub parent_of : List Record → ℕ → Option ℕ
parent_of rs number = option_and_then (λ r. r.parent) (slice_get rs number)

-- up from a block by at most n addresses, when so many parents were passed already
abbrev pub climb : List Record → ℕ → ℕ → ℕ → Option ℕ
climb rs passed zero number = None
climb rs passed (suc n) number =
    option_and_then (λ address. cond (address == 0) (Some passed) (option_and_then (λ parent. climb rs (passed + 1) n parent) (number_of rs address)))
    (parent_of rs number)

-- the path of a block: how many parents are passed up to address 0. They come before it, so they are at most as many as its number says.
abbrev pub path_of : List Record → ℕ → Option ℕ
path_of rs number = climb rs 0 (number + 1) number

-- so many parents lie between a block and the root
abbrev pub Climbs : List Record → ℕ → ℕ → Type 0
Climbs rs number zero = parent_of rs number ≡ Some 0
Climbs rs number (suc n) =
    (address parent : ℕ) × (parent_of rs number ≡ Some address) × (number_of rs address ≡ Some parent) × Climbs rs parent n
