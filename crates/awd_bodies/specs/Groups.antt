-- Bodies that are a group of entries. Assumes nothing.
use Rattle.std.specs.Prelude.{ℕ, ◌+◌, List, Result}
use Rattle.awd_block_fault.specs.declared.BlockFault.{BlockFault}
use Rattle.awd_block_fault.specs.declared.BlockFault.TheVariants.{Field, Entry}
use Rattle.awd_block_fault.specs.Faults.{on}
use Rattle.awd_source.specs.Fields.{number_at}
use Rattle.awd_format.specs.Runs.{Reading, counted_at}
use Rattle.awd_format.specs.Shapes.{Shape, counted, also, any_number, read_of, text}
use Rattle.awd_attributes.specs.Attributes.{properties, user_list}
use Rattle.awd_geometry.specs.SubGeometries.{sub_geometry}

-- a group: a name, a count (2), properties, that many entries and a user list
abbrev pub group : (ℕ → Shape) → Shape
group entry = also text (any_number 2 (λ count. also properties (also (counted count entry) user_list)))

-- a geometry: a group of sub-geometries, with coordinates of a width
abbrev pub geometry : ℕ → Shape
geometry width = group (sub_geometry width)

-- how a group is read, for any kind of entry
abbrev pub group_at : Reading → List ℕ → ℕ → ℕ → Result ℕ BlockFault
group_at read B at end =
    on (λ x. x) (read_of text B at end) (λ p.
    on Field (number_at B p end 2) (λ count.
    on (λ x. x) (read_of properties B (p + 2) end) (λ q.
    on Entry (counted_at read B end count 0 q) (λ e. read_of user_list B e end))))
