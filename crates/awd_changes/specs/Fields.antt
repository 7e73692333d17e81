-- The fields of a block that may be edited: the parent's address, the addresses of materials, and the cells of the matrix. Assumes nothing.
use Rattle.std.specs.Prelude.{ℕ, Bool, true, cond, List, Ok, Err, Result}
use Rattle.std.specs.Option.{ok_or}
use Rattle.std.specs.Result.{result_map_both}
use Rattle.awd_fault.specs.declared.Cause.{Cause}
use Rattle.awd_fault.specs.Faults.{cause_number}
use Rattle.awd_roster.specs.declared.record.Record.{Record}
use Rattle.awd_roster.specs.declared.record.Target.TheVariants as target
use Rattle.awd_roster.specs.Addresses.{lawful_address}
use Rattle.awd_blocks.specs.Heads.{body_at}
use Rattle.awd_blocks.specs.Records.{has_head, matrix_width}
use Rattle.awd_contents.specs.Contents.{cut, is_mesh, material_place, cell_place}
use Rattle.awd_changes.specs.declared.fields.FieldPlace.{FieldPlace}
use Rattle.awd_edits.specs.declared.edit.Field.{Field}
use Rattle.awd_edits.specs.declared.edit.Field.TheVariants.{Parent, Material, Cell}

-- where a field is, how many bytes it has, and which numbers may stand there
pub record Place : Type 0 where
  pub at : ℕ
  pub size : ℕ
  pub allowed : ℕ → Bool

-- an address at a place, that names what it is to name
abbrev pub address_place : (ℕ → Bool) → ℕ → Place
address_place lawful at = record { at = at; size = 4; allowed = lawful }

-- a cell at a place: any bytes
abbrev pub cell_of_width : ℕ → ℕ → Place
cell_of_width width at = record { at = at; size = width; allowed = λ n. true }

-- a field of a block behind some others, in a document with these flags; or the cause why the block has none: 19 where its kind has no such
-- field, 21 for a position at or above the count of materials, 22 for a cell above 11
abbrev pub field_place : ℕ → List Record → List ℕ → Record → Field → Result Place ℕ
field_place flags before B r Parent =
    cond (has_head r.namespace r.kind) (Ok (address_place (lawful_address target.Parent before) (body_at r.place))) (Err 19)
field_place flags before B r (Material i) =
    cond (is_mesh r) (result_map_both (address_place (lawful_address target.Material before)) (λ c. c) (ok_or (material_place B r i) 21)) (Err 19)
field_place flags before B r (Cell k) =
    cond (has_head r.namespace r.kind)
    (result_map_both (cell_of_width (matrix_width flags B r.place)) (λ c. c) (ok_or (cell_place flags B r k) 22))
    (Err 19)

-- where a field is, cut where the bytes end, and how many bytes it has, whatever may stand there
abbrev pub within : List ℕ → Result Place ℕ → Result (ℕ × ℕ) ℕ
within B p = result_map_both (λ p. (cut B p.at, p.size)) (λ c. c) p

-- the same, as the program says it
abbrev pub found : Result FieldPlace Cause → Result (ℕ × ℕ) ℕ
found p = result_map_both (λ p. (p.at, p.size)) cause_number p
