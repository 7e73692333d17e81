-- The first fault of a shape in document order, as a relation between bytes and faults. Nothing here says how bytes are read: only which
-- parts stand where, and which is the first that does not. Assumes nothing.
use Rattle.std.specs.Prelude.{◌≡◌, ℕ, ◌+◌, ◌<◌, ◌≤◌, true, false, ◌⊎◌, List, length, Some, Option}
use Rattle.awd_source.specs.Bytes.{le, part}
use Rattle.awd_block_fault.specs.declared.FieldFault.{FieldFault}
use Rattle.awd_block_fault.specs.declared.BlockFault.{BlockFault}
use Rattle.awd_block_fault.specs.declared.BlockFault.TheVariants.{Field, Entry}
use Rattle.awd_block_fault.specs.Faults.{fault, short, in_entry, field_of}
use Rattle.awd_format.specs.Sets.{Stands, Counted}
use Rattle.awd_format.specs.Shapes.{Shape, number, bytes, counted, measured, also, sound, SetOf}

-- so many bytes do not fit the holder, and the fault says so at the first of them
abbrev pub NoRoom : ℕ → ℕ → ℕ → BlockFault → Type 0
NoRoom n at end x = (end < at + n) × (x ≡ Field (short at))

-- a member of a set stands there, and something holds of it
abbrev pub Standing : (List ℕ → Type 0) → List ℕ → ℕ → ℕ → (List ℕ → Type 0) → Type 0
Standing P B at end Q = (m : List ℕ) × P m × Stands B at end m × Q m

-- a test finds a flaw in bytes that begin at a place, and the fault is that flaw, its place counted from there
abbrev pub Flawed : Option FieldFault → ℕ → BlockFault → Type 0
Flawed found at x = (y : FieldFault) × (found ≡ Some y) × (x ≡ Field (fault y.cause (at + y.place)))

-- the first fault of a run, which is that of its first entry at fault. M has the members of each index, fault_at the first faults of the
-- entry of an index at a place, and more the indices and places at which the run has an entry left.
pub record InRun (M : ℕ → List ℕ → Type 0) (fault_at : ℕ → ℕ → BlockFault → Type 0) (more : ℕ → ℕ → Type 0) (B : List ℕ) (at end : ℕ) (x : BlockFault) : Type 0 where
  -- the index of the entry at fault
  pub index : ℕ
  -- the bytes of the entries before it: that many members in a row, which stand there
  pub before : List ℕ
  pub members : Counted M 0 index before
  pub stand : Stands B at end before
  -- behind them an entry is left
  pub goes_on : more index (at + length before)
  -- the first fault of that entry
  pub own : BlockFault
  pub first : fault_at index (at + length before) own
  -- it is told as the entry's index and the field's fault
  pub told : x ≡ Entry (in_entry index (field_of own))

-- x is the first fault of a shape, from at on in a holder that ends at end
abbrev pub FaultOf : Shape → List ℕ → ℕ → ℕ → BlockFault → Type 0
-- the number does not fit; or it does, and its value is not allowed; or that is allowed, and the fault is that of what follows it
FaultOf (number width allowed cause next) B at end x =
    NoRoom width at end x
    ⊎ ((at + width ≤ end) × (allowed (le (part B at width)) ≡ false) × (x ≡ Field (fault cause at)))
    ⊎ ((at + width ≤ end) × (allowed (le (part B at width)) ≡ true) × FaultOf (next (le (part B at width))) B (at + width) end x)
-- the bytes do not fit
FaultOf (bytes n) B at end x = NoRoom n at end x
-- an entry is at fault, of an index below their number
FaultOf (counted n entry) B at end x = InRun (λ i. SetOf (entry i)) (λ i p. FaultOf (entry i) B p end) (λ i p. i < n) B at end x
-- the run does not fit; or it does, and an entry is at fault that begins before the run's end, which is the end of its entries' holder
FaultOf (measured n entry) B at end x =
    NoRoom n at end x
    ⊎ ((at + n ≤ end) × InRun (λ i. SetOf (entry i)) (λ i p. FaultOf (entry i) B p (at + n)) (λ i p. p < at + n) B at (at + n) x)
-- the fault is that of the first shape; or a member of it stands there, and the fault is that of the second behind it
FaultOf (also a b) B at end x = FaultOf a B at end x ⊎ Standing (SetOf a) B at end (λ m. FaultOf b B (at + length m) end x)
-- the fault is that of the shape tested; or a member of it stands there, and the test finds a flaw in that
FaultOf (sound a flaw) B at end x = FaultOf a B at end x ⊎ Standing (SetOf a) B at end (λ m. Flawed (flaw m) at x)
