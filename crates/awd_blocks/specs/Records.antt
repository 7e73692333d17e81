-- What a block tells, by its bytes. Assumes nothing.
use Rattle.std.specs.Prelude.{ℕ, ◌+◌, ◌*◌, Bool, cond, ◌&&◌, List, [], ◌∷◌, map, Some, None, Option, Result, Ok, ◌==◌}
use Rattle.std.specs.Option.{option_map}
use Rattle.awd_source.specs.Bytes.{le, part}
use Rattle.awd_block_fault.specs.declared.BlockFault.{BlockFault}
use Rattle.awd_block_fault.specs.Faults.{on}
use Rattle.awd_header.specs.Widths.{widths_of}
use Rattle.awd_roster.specs.declared.kind.BlockKind.TheVariants.{Container, Mesh, Light, Picker, Geometry, Skeleton}
use Rattle.awd_roster.specs.declared.record.Record.{Record}
use Rattle.awd_roster.specs.declared.record.Span.{Span}
use Rattle.awd_roster.specs.Kinds.{kind_number}
use Rattle.awd_roster.specs.Addresses.{has}
use Rattle.awd_blocks.specs.declared.blocks.Block.{Block}
use Rattle.awd_blocks.specs.declared.heads.Head.{Head}
use Rattle.awd_blocks.specs.Heads.{flags_at, head_of}
use Rattle.awd_blocks.specs.Blocks.{block_at}

-- the body of a block of a namespace and a kind begins with a scene head: containers, meshes and lights
abbrev pub has_head : ℕ → ℕ → Bool
has_head namespace kind = namespace == 0 && has (map kind_number (Container ∷ Mesh ∷ Light ∷ [])) kind

-- or with a name: light pickers, geometries and skeletons
abbrev pub begins_named : ℕ → ℕ → Bool
begins_named namespace kind = namespace == 0 && has (map kind_number (Picker ∷ Geometry ∷ Skeleton ∷ [])) kind

-- how wide the matrix cells are of the block whose header is at a place
abbrev pub matrix_width : ℕ → List ℕ → ℕ → ℕ
matrix_width flags B p = (widths_of flags (flags_at B p)).matrix

-- where the name is in a body that begins at a place: behind the parent's address (4) and the matrix in a scene head, else first
abbrev pub name_in : ℕ → ℕ → ℕ → ℕ → Option ℕ
name_in namespace kind width body =
    cond (has_head namespace kind) (Some (body + 4 + 12 * width)) (cond (begins_named namespace kind) (Some body) None)

-- the bytes of a text that is at a place, behind its length (2)
abbrev pub text_bytes : List ℕ → ℕ → Span
text_bytes B q = record { place = q + 2; length = le (part B q 2) }

-- what the block tells whose header is at a place and says so much, by the width of its matrix cells: the parent's address (4) is first in a scene
-- head
abbrev pub record_of : List ℕ → ℕ → ℕ → Head → Record
record_of B p width h =
    record {
      id = h.id;
      namespace = h.namespace;
      kind = h.kind;
      place = p;
      size = h.size;
      parent = cond (has_head h.namespace h.kind) (Some (le (part B h.body 4))) None;
      name = option_map (text_bytes B) (name_in h.namespace h.kind width h.body);
    }

-- the same by the bytes alone, in a document with these flags
abbrev pub record_at : ℕ → List ℕ → ℕ → Record
record_at flags B p = record_of B p (matrix_width flags B p) (head_of B p)

-- a block as it is read: what it tells and the place behind it, or its first fault
abbrev pub read_block : ℕ → List Record → List ℕ → ℕ → Result Block BlockFault
read_block flags before B at =
    on (λ x. x) (block_at flags before B at) (λ e. Ok (record { told = record_at flags B at; behind = e }))
