-- What a walk over user attributes meets. Assumes nothing.
use Rattle.std.specs.Prelude.{◌≡◌, ℕ, List, length}
use Rattle.awd_fault.specs.declared.Fault.{Fault}
use Rattle.awd_fault.specs.Faults.{report}
use Rattle.awd_block_fault.specs.declared.EntryFault.{EntryFault}
use Rattle.awd_block_fault.specs.declared.BlockFault.TheVariants.{Entry}
use Rattle.awd_block_fault.specs.Faults.{in_block}
use Rattle.awd_format.specs.Runs.{FirstFault}
use Rattle.awd_format.specs.Sets.{Counted}
use Rattle.awd_format.specs.Shapes.{SetOf, entry_of}
use Rattle.awd_attributes.specs.Attributes.{user}

-- the bytes are n user attributes in a row
abbrev pub UserRun : ℕ → List ℕ → Type 0
UserRun n B = Counted (λ i. SetOf (user i)) 0 n B

-- a fault is that of the first entry that is no user attribute, all before it being such
abbrev pub FirstRefused : List ℕ → Fault → Type 0
FirstRefused B f =
    (x : EntryFault) × (report f ≡ in_block 0 (Entry x)) × FirstFault (λ i. entry_of (user i)) (λ i. SetOf (user i)) B 0 (length B) x
