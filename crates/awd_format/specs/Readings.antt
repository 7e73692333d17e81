-- How a shape is read in a holder. Assumes nothing.
use Rattle.std.specs.Prelude.{ℕ, Result}
use Rattle.awd_source.specs.declared.source.Source.{Ghosts}
use Rattle.awd_block_fault.specs.declared.FieldFault.{FieldFault}
use Rattle.awd_block_fault.specs.declared.BlockFault.{BlockFault}
use Rattle.awd_source.specs.declared.holder.Holder.{Holder}
use Rattle.awd_source.specs.Holders.{held}
use Rattle.awd_format.specs.Shapes.{Shape, read_of, entry_of}

-- from a place on: the place behind it, or its first fault
abbrev pub read_in : {S : Type 0} {source : Ghosts S} → Shape → Holder S source → ℕ → Result ℕ BlockFault
read_in L h at = read_of L (held h) at h.end

-- the same as an entry
abbrev pub entry_in : {S : Type 0} {source : Ghosts S} → Shape → Holder S source → ℕ → Result ℕ FieldFault
entry_in L h at = entry_of L (held h) at h.end
