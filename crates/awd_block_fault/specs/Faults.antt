-- Faults inside faults: of a field, of an entry of a run, of a block. Assumes nothing.
use Rattle.std.specs.Prelude.{ℕ, Some, None, Ok, Err, Result}
use Rattle.awd_fault.specs.declared.Cause.{Cause}
use Rattle.awd_fault.specs.declared.Cause.TheVariants.{DoesNotFit}
use Rattle.awd_fault.specs.Faults.{Report, cause_number}
use Rattle.awd_block_fault.specs.declared.FieldFault.{FieldFault}
use Rattle.awd_block_fault.specs.declared.EntryFault.{EntryFault}
use Rattle.awd_block_fault.specs.declared.BlockFault.{BlockFault}
use Rattle.awd_block_fault.specs.declared.BlockFault.TheVariants.{Header, Field, Entry}

-- a cause at a place
abbrev pub fault : Cause → ℕ → FieldFault
fault cause place = record { cause = cause; place = place }

-- a field, body or run that does not fit what holds it, at its first byte
abbrev pub short : ℕ → FieldFault
short place = fault DoesNotFit place

-- a field's fault in the entry of an index
abbrev pub in_entry : ℕ → FieldFault → EntryFault
in_entry index field = record { index = index; field = field }

-- the field's fault inside a fault: an entry that holds runs of its own tells only this, since the index is that of
-- the outermost run's entry
abbrev pub field_of : BlockFault → FieldFault
field_of (Header x) = x
field_of (Field x) = x
field_of (Entry x) = x.field

-- what a fault in the block of a number says
abbrev pub in_block : ℕ → BlockFault → Report
in_block block (Header x) = record { cause = cause_number x.cause; place = x.place; block = block; layer = 1; index = None }
in_block block (Field x) = record { cause = cause_number x.cause; place = x.place; block = block; layer = 2; index = None }
in_block block (Entry x) =
    record { cause = cause_number x.field.cause; place = x.field.place; block = block; layer = 3; index = Some x.index }

-- on from a value, or out with the fault, turned by a function: what `?` does
abbrev pub on : {A B F G : Type 0} → (F → G) → Result A F → (A → Result B G) → Result B G
on turn (Ok a) next = next a
on turn (Err x) next = Err (turn x)

-- a result with its fault turned
abbrev pub turned : {A F G : Type 0} → (F → G) → Result A F → Result A G
turned turn r = on turn r Ok
