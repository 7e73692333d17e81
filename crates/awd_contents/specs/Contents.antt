-- What the bytes of a block have at a position: a material of a mesh instance, or a cell of a matrix. Assumes nothing.
use Rattle.std.specs.Prelude.{ℕ, ◌+◌, ◌*◌, Bool, min, cond, ◌&&◌, List, length, Some, None, Option, ◌==◌, nat_lt, from_bits, Float}
use Rattle.std.specs.Float.{binary32, binary64}
use Rattle.std.specs.Option.{option_map, option_and_then}
use Rattle.awd_source.specs.Bytes.{le, part}
use Rattle.awd_roster.specs.declared.kind.BlockKind.TheVariants.{Mesh}
use Rattle.awd_roster.specs.declared.record.Record.{Record}
use Rattle.awd_roster.specs.Kinds.{kind_number}
use Rattle.awd_blocks.specs.Heads.{body_at}
use Rattle.awd_blocks.specs.Records.{has_head, matrix_width}
use Rattle.awd_contents.specs.declared.contents.Cell.{Cell}
use Rattle.awd_contents.specs.declared.contents.Cell.TheVariants.{Single, Double}

-- a place, cut where the bytes end
abbrev pub cut : List ℕ → ℕ → ℕ
cut B q = min q (length B)

-- whether a block is a mesh instance
abbrev pub is_mesh : Record → Bool
is_mesh r = r.namespace == 0 && r.kind == kind_number Mesh

-- where a mesh instance has the count (2) of its materials: behind its name and its geometry's address (4)
abbrev pub materials_at : Record → Option ℕ
materials_at r = cond (is_mesh r) (option_map (λ s. s.place + s.length + 4) r.name) None

-- where the material at a position is, if there are that many: behind the count and the materials (4) before it
abbrev pub material_place : List ℕ → Record → ℕ → Option ℕ
material_place B r i = option_and_then (λ q. cond (nat_lt i (le (part B q 2))) (Some (q + 2 + 4 * i)) None) (materials_at r)

-- the address there
abbrev pub material_of : List ℕ → Record → ℕ → Option ℕ
material_of B r i = option_map (λ q. le (part B q 4)) (material_place B r i)

-- where a cell (0 to 11) of the matrix in a block's scene head is: behind the parent's address (4) and the cells before it; none where the
-- block has no such head
abbrev pub cell_place : ℕ → List ℕ → Record → ℕ → Option ℕ
cell_place flags B r cell = cond (has_head r.namespace r.kind && nat_lt cell 12) (Some (body_at r.place + 4 + cell * matrix_width flags B r.place)) None

-- a float by its bits, of 4 or 8 bytes: which of the two, by number (1 single, 2 double), and its value
abbrev pub content_of : ℕ → ℕ → ℕ × Float
content_of width v = cond (width == 8) (2, from_bits binary64 v) (1, from_bits binary32 v)

-- the content of that cell
abbrev pub cell_of : ℕ → List ℕ → Record → ℕ → Option (ℕ × Float)
cell_of flags B r cell =
    option_map (λ q. content_of (matrix_width flags B r.place) (le (part B q (matrix_width flags B r.place)))) (cell_place flags B r cell)

-- which case the content of a cell is, by number, and its value
abbrev pub told : Cell → ℕ × Float
told (Single x) = (1, x)
told (Double x) = (2, x)
