-- A session as a value: the bytes of its source, whether it is open, how many blocks it has taken, and the edits that stand; what each call
-- answers and leaves. (What the calls that edit do is in Edits.) Assumes nothing.
use Rattle.std.specs.Prelude.{ℕ, ◌+◌, Bool, true, false, not, cond, List, [], length, is_ok, slice_get, Some, None, Ok, Err, Option, Result, ◌==◌, nat_le, Float}
use Rattle.std.specs.Result.{result_map_both}
use Rattle.std.specs.Option.{option_map, option_and_then}
use Rattle.awd_fault.specs.Faults.{Report, of_call}
use Rattle.awd_block_fault.specs.Faults.{in_block}
use Rattle.awd_header.specs.Header.{opening, header_of, flags_of}
use Rattle.awd_header.specs.declared.Header.{Header}
use Rattle.awd_roster.specs.declared.record.Record.{Record}
use Rattle.awd_roster.specs.Lookups.{number_of, path_of}
use Rattle.awd_blocks.specs.declared.blocks.Block.{Block}
use Rattle.awd_blocks.specs.Records.{read_block}
use Rattle.awd_blocks.specs.Lists.{walk}
use Rattle.awd_contents.specs.Contents.{material_of, cell_of}
use Rattle.awd_edits.specs.declared.edit.Edit.{Edit}
use Rattle.awd_edits.specs.Overlay.{overlay}

pub record State : Type 0 where
  pub source : List ℕ
  pub opened : Bool
  pub taken : ℕ
  -- the latest of them first
  pub edits : List Edit

-- a session as it was made
abbrev pub fresh : List ℕ → State
fresh b = record { source = b; opened = false; taken = 0; edits = [] }

-- its bytes: the source's, with the standing edits laid over them
abbrev pub bytes_of : State → List ℕ
bytes_of s = overlay s.source s.edits

-- what the taken blocks tell, in their order
abbrev pub records_of : State → List Record
records_of s = (walk (bytes_of s) s.taken).records

-- the place after the last of them
abbrev pub end_of : State → ℕ
end_of s = (walk (bytes_of s) s.taken).end

-- cause 1 where the session is open already; else as the bytes alone say
abbrev pub open_answer : State → Result Header Report
open_answer s = cond s.opened (Err (of_call 1 0 0)) (opening (bytes_of s))

-- open from an accepted opening on; a refusal changes nothing
abbrev pub after_open : State → State
after_open s = cond (is_ok (open_answer s)) (record { source = s.source; opened = true; taken = s.taken; edits = s.edits }) s

-- what the header says, or none before it is open
abbrev pub header_answer : State → Option Header
header_answer s = cond s.opened (Some (header_of (bytes_of s))) None

-- the block after the taken ones: cause 8 before the session is open; none where the taken ones use the bytes up; cause 9 where 512 are taken;
-- else the block that begins where they end, or its first fault
abbrev pub following : State → Result (Option Block) Report
following s =
    cond (not s.opened) (Err (of_call 8 0 0))
    (cond (end_of s == length (bytes_of s)) (Ok None)
    (cond (nat_le 512 s.taken) (Err (of_call 9 (end_of s) 512))
    (result_map_both Some (in_block s.taken) (read_block (flags_of (bytes_of s)) (records_of s) (bytes_of s) (end_of s)))))

-- next tells its number, which counts all blocks from 0
abbrev pub next_answer : State → Result (Option ℕ) Report
next_answer s = result_map_both (option_map (λ block. s.taken)) (λ f. f) (following s)

-- an answer that is a block
abbrev pub is_block : Result (Option Block) Report → Bool
is_block (Ok (Some block)) = true
is_block (Ok None) = false
is_block (Err f) = false

-- and takes it; without one, nothing changes
abbrev pub after_next : State → State
after_next s = cond (is_block (following s)) (record { source = s.source; opened = s.opened; taken = s.taken + 1; edits = s.edits }) s

-- the questions: the record of a block by its number
abbrev pub record_answer : State → ℕ → Option Record
record_answer s number = slice_get (records_of s) number

-- the number of the block with an ID
abbrev pub number_answer : State → ℕ → Option ℕ
number_answer s id = number_of (records_of s) id

-- how many parents lie between a block and the root
abbrev pub path_answer : State → ℕ → Option ℕ
path_answer s number = path_of (records_of s) number

-- the address of the material at a position of a block
abbrev pub material_answer : State → ℕ → ℕ → Option ℕ
material_answer s number position = option_and_then (λ r. material_of (bytes_of s) r position) (record_answer s number)

-- the content of a cell of a block's matrix
abbrev pub cell_answer : State → ℕ → ℕ → Option (ℕ × Float)
cell_answer s number cell = option_and_then (λ r. cell_of (flags_of (bytes_of s)) (bytes_of s) r cell) (record_answer s number)
