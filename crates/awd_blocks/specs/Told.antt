-- That what a block tells of its parent and its name is where its body's shape has them. Assumes nothing.
use Rattle.std.specs.Prelude.{◌≡◌, ℕ, ◌+◌, List, Some, Ok}
use Rattle.awd_source.specs.Bytes.{le, part}
use Rattle.awd_format.specs.Shapes.{read_of, text}
use Rattle.awd_roster.specs.declared.record.Record.{Record}
use Rattle.awd_roster.specs.declared.record.Target.TheVariants.{Parent}
use Rattle.awd_bodies.specs.Fields.{address_to, matrix}
use Rattle.awd_blocks.specs.Records.{text_bytes}

-- a scene head is read part by part from a body's beginning on, in a holder that ends at end: an address, which is the parent that is told, a matrix,
-- and a text, which is the name that is told
pub record HeadTold (before : List Record) (width : ℕ) (B : List ℕ) (body end : ℕ) (r : Record) : Type 0 where
  pub matrix_place : ℕ
  pub name_place : ℕ
  pub behind : ℕ
  pub address : read_of (address_to Parent before) B body end ≡ Ok matrix_place
  pub cells : read_of (matrix width) B matrix_place end ≡ Ok name_place
  pub name : read_of text B name_place end ≡ Ok behind
  pub parent_told : r.parent ≡ Some (le (part B body 4))
  pub name_told : r.name ≡ Some (text_bytes B name_place)
  pub name_whole : behind ≡ (text_bytes B name_place).place + (text_bytes B name_place).length

-- a body that begins with a name: the text there is the name that is told, and no parent is
pub record NameTold (B : List ℕ) (body end : ℕ) (r : Record) : Type 0 where
  pub behind : ℕ
  pub name : read_of text B body end ≡ Ok behind
  pub name_told : r.name ≡ Some (text_bytes B body)
  pub name_whole : behind ≡ (text_bytes B body).place + (text_bytes B body).length
