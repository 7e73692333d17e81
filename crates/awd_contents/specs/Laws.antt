-- That materials and cells are where their body's shape has them. Assumes nothing.
use Rattle.std.specs.Prelude.{◌≡◌, ℕ, ◌<◌, List, true, Some, Ok}
use Rattle.awd_format.specs.Shapes.{read_of, also}
use Rattle.awd_roster.specs.declared.record.Record.{Record}
use Rattle.awd_roster.specs.declared.record.Target.TheVariants.{Parent, Geometry}
use Rattle.awd_bodies.specs.Fields.{address_to, numbers}
use Rattle.awd_bodies.specs.Scene.{scene_head}
use Rattle.awd_blocks.specs.Heads.{namespace_at, kind_at, body_at}
use Rattle.awd_blocks.specs.Blocks.{block_at}
use Rattle.awd_blocks.specs.Records.{has_head, matrix_width, record_at}
use Rattle.awd_contents.specs.Contents.{is_mesh, materials_at, cell_place}

-- of a block that was read, at a place and up to e
pub record ContentsLaws : Type 0 where
  -- the count of a mesh instance's materials is behind its scene head and its geometry's address
  pub materials : (flags : ℕ) (before : List Record) (B : List ℕ) (at e : ℕ) → block_at flags before B at ≡ Ok e → is_mesh (record_at flags B at) ≡ true
      → (q : ℕ) × (read_of (also (scene_head before (matrix_width flags B at)) (address_to Geometry before)) B (body_at at) e ≡ Ok q) × (materials_at (record_at flags B at) ≡ Some q)
  -- a cell is behind the parent's address and the cells before it
  pub cells : (flags : ℕ) (before : List Record) (B : List ℕ) (at e : ℕ) → block_at flags before B at ≡ Ok e → has_head (namespace_at B at) (kind_at B at) ≡ true → (k : ℕ) → k < 12
      → (q : ℕ) × (read_of (also (address_to Parent before) (numbers k (matrix_width flags B at))) B (body_at at) e ≡ Ok q) × (cell_place flags B (record_at flags B at) k ≡ Some q)
