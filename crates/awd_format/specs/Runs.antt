-- Runs of entries: how they are read, the law that a kind of entry keeps, and what a run's fault tells. Assumes nothing.
use Rattle.std.specs.Prelude.{◌≡◌, ℕ, zero, suc, ◌+◌, ◌<◌, ◌≤◌, cond, List, [], length, Ok, Err, Result, ◌==◌}
use Rattle.awd_block_fault.specs.declared.FieldFault.{FieldFault}
use Rattle.awd_block_fault.specs.declared.EntryFault.{EntryFault}
use Rattle.awd_block_fault.specs.declared.BlockFault.{BlockFault}
use Rattle.awd_block_fault.specs.declared.BlockFault.TheVariants.{Header, Field, Entry}
use Rattle.awd_block_fault.specs.Faults.{in_entry, short, on, turned}
use Rattle.awd_source.specs.Fields.{bytes_at, number_at}
use Rattle.awd_format.specs.Sets.{Stands, Reads, NoneBegins, Counted}

-- how the entry of an index is read in bytes, from a place, in a holder that ends at a place: the place behind it, or its fault
abbrev pub Reading : Type 0
Reading = ℕ → List ℕ → ℕ → ℕ → Result ℕ FieldFault

-- n entries, the first of index i
abbrev pub counted_at : Reading → List ℕ → ℕ → ℕ → ℕ → ℕ → Result ℕ EntryFault
counted_at read B end zero i at = Ok at
counted_at read B end (suc n) i at = on (in_entry i) (read i B at end) (λ e. counted_at read B end n (i + 1) e)

-- entries as far as the holder's end, the first of index i; each has a byte, so as many turns as bytes are enough
abbrev pub filling_at : Reading → List ℕ → ℕ → ℕ → ℕ → ℕ → Result ℕ EntryFault
filling_at read B end zero i at = Ok at
filling_at read B end (suc n) i at = cond (at == end) (Ok at) (on (in_entry i) (read i B at end) (λ e. filling_at read B end n (i + 1) e))

-- a run that fills so many bytes: first it must fit, then its entries are read, with its own end as their holder's
abbrev pub measured_at : Reading → List ℕ → ℕ → ℕ → ℕ → Result ℕ BlockFault
measured_at read B at end size = on Field (bytes_at at end size) (λ stop. turned Entry (filling_at read B stop size 0 at))

-- a total (4), and a run that fills so many bytes
abbrev pub list_at : Reading → List ℕ → ℕ → ℕ → Result ℕ BlockFault
list_at read B at end = on Field (number_at B at end 4) (λ total. measured_at read B (at + 4) end total)

-- the law of a kind of entry: of the sets that it stands for, none has an empty member, none a member that begins another, and each
-- is read exactly
pub record KindLaw (read : Reading) (members : ℕ → List ℕ → Type 0) : Type 0 where
  pub nonempty : (i : ℕ) → members i [] → ⊥
  pub prefix_free : (i : ℕ) → NoneBegins (members i)
  pub exact : (i : ℕ) (B : List ℕ) (at end : ℕ) → at ≤ end → end ≤ length B → Reads (members i) B at end (read i B at end)

-- a fault of a run is that of its first entry that is no member: those before it stand, and it reads to that fault
abbrev pub FirstFault : Reading → (ℕ → List ℕ → Type 0) → List ℕ → ℕ → ℕ → EntryFault → Type 0
FirstFault read M B at end x =
    (m : List ℕ) × Counted M 0 x.index m × Stands B at end m × (read x.index B (at + length m) end ≡ Err x.field)

-- so with a counted run
abbrev pub CountedFault : Reading → (ℕ → List ℕ → Type 0) → List ℕ → ℕ → ℕ → Result ℕ EntryFault → Type 0
CountedFault read M B at end (Ok e) = Unit {0}
CountedFault read M B at end (Err x) = FirstFault read M B at end x

-- and with a measured run, unless it does not fit
abbrev pub MeasuredFault : Reading → (ℕ → List ℕ → Type 0) → List ℕ → ℕ → ℕ → ℕ → Result ℕ BlockFault → Type 0
MeasuredFault read M B at end size (Ok e) = Unit {0}
MeasuredFault read M B at end size (Err (Entry x)) = (at + size ≤ end) × FirstFault read M B at (at + size) x
MeasuredFault read M B at end size (Err (Field x)) = (end < at + size) × (x ≡ short at)
MeasuredFault read M B at end size (Err (Header x)) = ⊥
