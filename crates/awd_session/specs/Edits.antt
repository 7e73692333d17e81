-- The calls that edit: reparent, dress, nudge and undo. Assumes nothing.
use Rattle.std.specs.Prelude.{ℕ, Bool, true, not, cond, List, ◌∷◌, length, take, drop, slice_get, is_ok, Ok, Err, Result, ◌==◌, nat_lt, is_nan, to_bits}
use Rattle.std.specs.Float.{binary32, binary64}
use Rattle.std.specs.Int.{w32, w64, to_le_bytes}
use Rattle.std.specs.Option.{ok_or}
use Rattle.std.specs.Result.{result_map_both}
use Rattle.awd_fault.specs.Faults.{Report, of_call}
use Rattle.awd_block_fault.specs.Faults.{on}
use Rattle.awd_header.specs.Header.{flags_of}
use Rattle.awd_roster.specs.declared.record.Record.{Record}
use Rattle.awd_roster.specs.declared.record.Target.TheVariants as target
use Rattle.awd_roster.specs.Addresses.{lawful_address}
use Rattle.awd_contents.specs.declared.contents.Cell as content
use Rattle.awd_contents.specs.declared.contents.Cell.TheVariants.{Single, Double}
use Rattle.awd_edits.specs.declared.edit.Edit.{Edit}
use Rattle.awd_edits.specs.declared.edit.Field.{Field}
use Rattle.awd_edits.specs.declared.edit.Field.TheVariants.{Parent, Material, Cell}
use Rattle.awd_edits.specs.declared.edit.Laid.{Laid}
use Rattle.awd_edits.specs.declared.edit.Laid.TheVariants.{Four, Eight}
use Rattle.awd_edits.specs.Overlay.{bytes_laid}
use Rattle.awd_changes.specs.Fields.{Place, field_place}
use Rattle.awd_session.specs.State.{State, bytes_of, records_of, record_answer}

-- what a call comes to, by the cause's number where it comes to nothing
abbrev pub Asked : Type 0 → Type 0
Asked A = Result A ℕ

-- and what comes after it, where it comes to something
abbrev pub and_then : {A B : Type 0} → Asked A → (A → Asked B) → Asked B
and_then a next = on (λ cause. cause) a next

-- as an answer of a call about a block: a cause as a fault of the call
abbrev pub about : {A : Type 0} → ℕ → Asked A → Result A Report
about number a = result_map_both (λ x. x) (λ cause. of_call cause 0 number) a

-- a field's place and size
abbrev pub spot : Place → ℕ × ℕ
spot p = (p.at, p.size)

-- the field that is named, of a block by its number: 8 before the session is open, 18 for a block that is not taken, else as that block has it
abbrev pub place_in : State → ℕ → Field → Asked Place
place_in s number f =
    cond (not s.opened) (Err 8)
    (and_then (ok_or (record_answer s number) 18) (λ r. field_place (flags_of (bytes_of s)) (take number (records_of s)) (bytes_of s) r f))

-- an address that may stand in a field, by the records before the block's: 0 for none, or that of one of a kind that goes there; a cell may hold
-- any bytes
abbrev pub lawful_in : Field → List Record → ℕ → Bool
lawful_in Parent before address = lawful_address target.Parent before address
lawful_in (Material position) before address = lawful_address target.Material before address
lawful_in (Cell cell) before address = true

-- something more, where fewer than 256 edits stand
abbrev pub with_room : {A : Type 0} → State → A → Asked A
with_room s x = cond (nat_lt (length s.edits) 256) (Ok x) (Err 20)

-- an address laid over a place: 14 where it is not lawful there
abbrev pub address_on : State → ℕ → Field → ℕ → Place → Asked Edit
address_on s number f address p =
    cond (p.allowed address) (with_room s (record { block = number; field = f; place = p.at; laid = Four (to_le_bytes w32 address) })) (Err 14)

-- and over a field
abbrev pub address_edit : State → ℕ → Field → ℕ → Asked Edit
address_edit s number f address = and_then (place_in s number f) (address_on s number f address)

-- another parent for a block
abbrev pub reparenting : State → ℕ → ℕ → Asked Edit
reparenting s number address = address_edit s number Parent address

-- another material at a position of a mesh instance
abbrev pub dressing : State → ℕ → ℕ → ℕ → Asked Edit
dressing s number position address = address_edit s number (Material position) address

-- the bytes of a float: its bits, the lowest byte first
abbrev pub laid_by : content.Cell → Laid
laid_by (Single x) = Four (to_le_bytes w32 (to_bits binary32 x))
laid_by (Double x) = Eight (to_le_bytes w64 (to_bits binary64 x))

-- a content that is not a number
abbrev pub not_a_number : content.Cell → Bool
not_a_number (Single x) = is_nan x
not_a_number (Double x) = is_nan x

-- a content laid over a place of a cell: 23 where the cell has another width, 24 where the content is not a number
abbrev pub content_on : State → ℕ → ℕ → content.Cell → Place → Asked Edit
content_on s number cell c p =
    cond (not (length (bytes_laid (laid_by c)) == p.size)) (Err 23)
    (cond (not_a_number c) (Err 24) (with_room s (record { block = number; field = Cell cell; place = p.at; laid = laid_by c })))

-- another content for a cell of a block's matrix
abbrev pub nudging : State → ℕ → ℕ → content.Cell → Asked Edit
nudging s number cell c = and_then (place_in s number (Cell cell)) (content_on s number cell c)

-- what a call that edits a block answers: nothing more, or the fault of the call
abbrev pub edit_answer : ℕ → Asked Edit → Result (Unit {0}) Report
edit_answer number a = result_map_both (λ e. tt) (λ f. f) (about number a)

-- the same session, but that other edits stand
abbrev pub with_edits : State → List Edit → State
with_edits s es = record { source = s.source; opened = s.opened; taken = s.taken; edits = es }

-- what a call that edits leaves: the edit stands, as the latest; a refusal changes nothing
abbrev pub after_edit : State → Asked Edit → State
after_edit s (Ok e) = with_edits s (e ∷ s.edits)
after_edit s (Err cause) = s

-- undo takes the latest edit away: 8 before the session is open, 25 where no edit stands
abbrev pub undoing : State → Asked Edit
undoing s = cond (not s.opened) (Err 8) (ok_or (slice_get s.edits 0) 25)

-- what undo answers: of no block, so its faults name block 0
abbrev pub undo_answer : State → Result (Unit {0}) Report
undo_answer s = result_map_both (λ e. tt) (λ f. f) (about 0 (undoing s))

-- what it leaves: the other edits stand; a refusal changes nothing
abbrev pub after_undo : State → State
after_undo s = cond (is_ok (undoing s)) (with_edits s (drop 1 s.edits)) s
