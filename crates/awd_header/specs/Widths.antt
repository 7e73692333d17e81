-- How wide matrix cells, coordinates and property numbers are. Assumes nothing.
use Rattle.std.specs.Prelude.{ℕ, ◌+◌, Bool, cond}
use Rattle.awd_header.specs.declared.Width.{Width}
use Rattle.awd_header.specs.declared.Width.TheVariants as width
use Rattle.awd_header.specs.declared.Widths.{Widths}
use Rattle.awd_header.specs.Header.{bit}

abbrev pub width_size : Width → ℕ
width_size width.Four = 4
width_size width.Eight = 8

-- three widths by their numbers of bytes
pub record Sizes : Type 0 where
  pub matrix : ℕ
  pub geometry : ℕ
  pub property : ℕ

abbrev pub sizes : Widths → Sizes
sizes w = record { matrix = width_size w.matrix; geometry = width_size w.geometry; property = width_size w.property }

-- a set bit means 8 bytes, a clear one 4
abbrev pub width_of : Bool → ℕ
width_of wide = cond wide 8 4

-- the three widths in their order, from bit k of some flags on
abbrev pub widths_from : ℕ → ℕ → Sizes
widths_from flags k =
    record { matrix = width_of (bit flags k); geometry = width_of (bit flags (k + 1)); property = width_of (bit flags (k + 2)) }

-- with bit 4 of the document's flags clear, its bits 1, 2 and 3 give the widths; else bits 0, 1 and 2 of each block's flags
abbrev pub widths_of : ℕ → ℕ → Sizes
widths_of flags block = cond (bit flags 4) (widths_from block 0) (widths_from flags 1)
