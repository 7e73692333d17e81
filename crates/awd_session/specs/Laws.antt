-- What a session's answers say in the format's words. Assumes nothing.
use Rattle.std.specs.Prelude.{◌≡◌, ℕ, ◌<◌, ◌≤◌, ◌⊎◌, List, ◌++◌, length, take, Some, None, Ok, Err, Option, Result}
use Rattle.awd_fault.specs.Faults.{Report, of_call}
use Rattle.awd_block_fault.specs.declared.BlockFault.{BlockFault}
use Rattle.awd_block_fault.specs.Faults.{in_block}
use Rattle.awd_format.specs.Sets.{Stands}
use Rattle.awd_header.specs.Header.{flags_of}
use Rattle.awd_roster.specs.declared.record.Record.{Record}
use Rattle.awd_roster.specs.Table.{but_parents}
use Rattle.awd_blocks.specs.Blocks.{LawfulBlock, BlockFaultOf}
use Rattle.awd_session.specs.State.{State, bytes_of, records_of, end_of}

-- a lawful block begins where the taken ones end
abbrev pub LawfulNext : State → Type 0
LawfulNext s =
    (m : List ℕ) × LawfulBlock (flags_of (bytes_of s)) (records_of s) m × Stands (bytes_of s) (end_of s) (length (bytes_of s)) m

-- a fault is the first one of the block that begins there
abbrev pub FirstFault : State → Report → Type 0
FirstFault s f =
    (x : BlockFault) × BlockFaultOf (flags_of (bytes_of s)) (records_of s) (bytes_of s) (end_of s) x × (f ≡ in_block s.taken x)

-- why an open session takes no block though bytes are left: 512 are taken; or fewer are, no lawful one begins where they end, and the fault is
-- its first
abbrev pub NotTaken : State → Report → Type 0
NotTaken s f =
    ((512 ≤ s.taken) × (f ≡ of_call 9 (end_of s) 512)) ⊎ ((s.taken < 512) × (LawfulNext s → ⊥) × FirstFault s f)

-- of an open session: a block is taken where fewer than 512 are and a lawful one begins where they end; none is left where they use the bytes
-- up; else it is refused
abbrev pub NextRight : State → Result (Option ℕ) Report → Type 0
NextRight s (Ok (Some number)) = (number ≡ s.taken) × (s.taken < 512) × LawfulNext s
NextRight s (Ok None) = end_of s ≡ length (bytes_of s)
NextRight s (Err f) = (end_of s ≡ length (bytes_of s) → ⊥) × NotTaken s f

-- what taken blocks tell stays, and more may come behind it
abbrev pub Kept : State → State → Type 0
Kept before after = (rs : List Record) × (records_of after ≡ records_of before ++ rs)

-- blocks that are taken are never unmade, whatever call comes
pub record Stays (before after : State) : Type 0 where
  -- there are as many, or more
  pub few : before.taken ≤ after.taken
  -- and the first of them tell what the taken ones told, but for their parents
  pub told : but_parents (take before.taken (records_of after)) ≡ but_parents (records_of before)
