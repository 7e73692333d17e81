-- What is promised of a session at any time, whatever calls it has had, in the format's words. Assumes nothing.
use Rattle.std.specs.Prelude.{◌≡◌, ℕ, ◌^◌, ◌<◌, ◌≤◌, ◌⊎◌, ◌↔◌, true, false, cond, List, [], length, take, Some, None, Ok, Option, Result, is_err, nat_lt, slice_index}
use Rattle.std.specs.Int.{w32, to_le_bytes}
use Rattle.std.specs.Option.{unwrap_or}
use Rattle.awd_fault.specs.Faults.{Report}
use Rattle.awd_source.specs.Bytes.{byte_at}
use Rattle.awd_header.specs.Header.{flags_of}
use Rattle.awd_roster.specs.declared.record.Record.{Record}
use Rattle.awd_blocks.specs.Heads.{body_at}
use Rattle.awd_blocks.specs.Blocks.{LawfulBlock}
use Rattle.awd_blocks.specs.Records.{has_head}
use Rattle.awd_blocks.specs.Lists.{told_from, HoldsOne}
use Rattle.awd_contents.specs.Contents.{material_place}
use Rattle.awd_edits.specs.Overlay.{latest}
use Rattle.awd_changes.specs.Laws.{changed}
use Rattle.awd_session.specs.State.{State, bytes_of, records_of, next_answer, record_answer}
use Rattle.awd_session.specs.Edits.{reparenting, dressing, edit_answer}
use Rattle.awd_session.specs.Laws.{LawfulNext}

-- a block is taken
abbrev pub Takes : Result (Option ℕ) Report → Type 0
Takes r = (number : ℕ) × (r ≡ Ok (Some number))

-- a taken block of an open session
abbrev pub Taken : State → ℕ → Record → Type 0
Taken s number r = (s.opened ≡ true) × (record_answer s number ≡ Some r)

-- the bytes of a block that is taken, with an address laid over those at a place of the document
abbrev pub changed_block : State → Record → ℕ → ℕ → List ℕ
changed_block s r place address = changed (bytes_of s) r place (to_le_bytes w32 address)

-- the block of a number would be lawful with that address
abbrev pub LawfulChange : State → ℕ → Record → ℕ → ℕ → Type 0
LawfulChange s number r place address =
    LawfulBlock (flags_of (bytes_of s)) (take number (records_of s)) (changed_block s r place address)

-- a call that lays an address over a field is refused exactly when 256 edits stand or the changed block would not be lawful
abbrev pub RefusedRightly : State → ℕ → Record → ℕ → ℕ → Result (Unit {0}) Report → Type 0
RefusedRightly s number r place address a =
    (is_err a ≡ true) ↔ ((256 ≤ length s.edits) ⊎ (LawfulChange s number r place address → ⊥))

-- what holds of a session at any time: its bytes, the blocks they hold, what its records tell, and when a call takes a block or is refused
pub record Promise (s : State) : Type 0 where
  -- its bytes are the source's, but that at each place stands what the latest standing edit that covers it lays there
  pub bytes : (at : ℕ)
      → byte_at (bytes_of s) at ≡ cond (nat_lt at (length s.source)) (Some (unwrap_or (latest s.edits at) (slice_index s.source at))) None
  -- they hold exactly one list of as many lawful blocks as are taken
  pub blocks : HoldsOne (bytes_of s) s.taken
  -- and the records tell these blocks
  pub told : records_of s ≡ told_from (bytes_of s) 12 blocks.blocks
  -- once open, a block is taken exactly when fewer than 512 are and a lawful block begins where they end
  pub next : s.opened ≡ true → Takes (next_answer s) ↔ ((s.taken < 512) × LawfulNext s)
  -- of a taken block with a parent
  pub reparent : (number address : ℕ) (r : Record) → Taken s number r → address < 2 ^ 32 → has_head r.namespace r.kind ≡ true
      → RefusedRightly s number r (body_at r.place) address (edit_answer number (reparenting s number address))
  -- of one with a material at a position
  pub dress : (number position address place : ℕ) (r : Record) → Taken s number r → address < 2 ^ 32
      → material_place (bytes_of s) r position ≡ Some place
      → RefusedRightly s number r place address (edit_answer number (dressing s number position address))
  -- before it is open, nothing is taken and no edit stands
  pub before : s.opened ≡ false → (s.taken ≡ 0) × (s.edits ≡ [])
  -- never are more blocks taken than 512
  pub few_blocks : s.taken ≤ 512
  -- nor do more edits stand than 256
  pub few_edits : length s.edits ≤ 256
