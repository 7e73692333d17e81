-- The list of blocks that bytes hold. Assumes nothing.
use Rattle.std.specs.Prelude.{◌≡◌, ℕ, zero, suc, ◌+◌, List, [], ◌∷◌, ◌++◌, length, Ok, Result}
use Rattle.awd_block_fault.specs.declared.BlockFault.{BlockFault}
use Rattle.awd_block_fault.specs.Faults.{on}
use Rattle.awd_format.specs.Sets.{Stands}
use Rattle.awd_header.specs.Header.{flags_of}
use Rattle.awd_roster.specs.declared.record.Record.{Record}
use Rattle.awd_blocks.specs.Heads.{size_at, body_at}
use Rattle.awd_blocks.specs.Blocks.{LawfulBlock, block_at}
use Rattle.awd_blocks.specs.Records.{record_at}

-- the records of some blocks, and one more
abbrev pub and_at : List Record → List ℕ → ℕ → List Record
and_at before B at = before ++ record_at (flags_of B) B at ∷ []

-- blocks stand in B one after another without a gap, from a place on, each inside B and lawful after those before it
abbrev pub Follow : List ℕ → ℕ → List Record → List (List ℕ) → Type 0
Follow B at before [] = Unit {0}
Follow B at before (m ∷ ms) =
    LawfulBlock (flags_of B) before m × Stands B at (length B) m × Follow B (at + length m) (and_at before B at) ms

-- B holds a list of lawful blocks: they begin behind the document header
abbrev pub Holds : List ℕ → List (List ℕ) → Type 0
Holds B ms = Follow B 12 [] ms

-- what blocks tell that stand one after another from a place on
abbrev pub told_from : List ℕ → ℕ → List (List ℕ) → List Record
told_from B at [] = []
told_from B at (m ∷ ms) = record_at (flags_of B) B at ∷ told_from B (at + length m) ms

-- B holds exactly one list of n lawful blocks
pub record HoldsOne (B : List ℕ) (n : ℕ) : Type 0 where
  pub blocks : List (List ℕ)
  pub many : length blocks ≡ n
  pub held : Holds B blocks
  pub only : (ms : List (List ℕ)) → length ms ≡ n → Holds B ms → ms ≡ blocks

-- what blocks tell, and where the last of them ends
pub record Walk : Type 0 where
  pub records : List Record
  pub end : ℕ

-- n blocks further, by the sizes that their headers state
abbrev pub walk_from : List ℕ → ℕ → List Record → ℕ → Walk
walk_from B zero before at = record { records = before; end = at }
walk_from B (suc n) before at = walk_from B n (and_at before B at) (body_at at + size_at B at)

-- the first n blocks
abbrev pub walk : List ℕ → ℕ → Walk
walk B n = walk_from B n [] 12

-- n blocks further, each of them read: what they tell and where the last of them ends, or the first fault
abbrev pub read_from : List ℕ → ℕ → List Record → ℕ → Result Walk BlockFault
read_from B zero before at = Ok (record { records = before; end = at })
read_from B (suc n) before at =
    on (λ x. x) (block_at (flags_of B) before B at) (λ e. read_from B n (and_at before B at) e)

-- the first n blocks
abbrev pub read_blocks : List ℕ → ℕ → Result Walk BlockFault
read_blocks B n = read_from B n [] 12
