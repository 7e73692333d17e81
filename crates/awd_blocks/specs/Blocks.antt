-- A block after some others: the bytes that it may be, how it is read, and its first fault. The document's flags say how wide numbers are.
-- Assumes nothing.
use Rattle.std.specs.Prelude.{◌≡◌, ℕ, ◌+◌, ◌<◌, ◌≤◌, cond, ◌⊎◌, List, length, Ok, Err, Result, ◌==◌}
use Rattle.awd_fault.specs.declared.Cause.TheVariants.{BytesLeftOver}
use Rattle.awd_block_fault.specs.declared.BlockFault.{BlockFault}
use Rattle.awd_block_fault.specs.declared.BlockFault.TheVariants.{Header}
use Rattle.awd_block_fault.specs.Faults.{fault, short, field_of, on}
use Rattle.awd_source.specs.Fields.{bytes_at}
use Rattle.awd_format.specs.Sets.{Stands, Then}
use Rattle.awd_format.specs.Shapes.{Shape, bytes, SetOf, read_of}
use Rattle.awd_format.specs.FirstFaults.{FaultOf}
use Rattle.awd_header.specs.Widths.{Sizes, widths_of}
use Rattle.awd_roster.specs.declared.kind.BlockKind.TheVariants.{Container, Mesh, Light, Picker, Geometry, Skeleton}
use Rattle.awd_roster.specs.declared.record.Record.{Record}
use Rattle.awd_roster.specs.Kinds.{kind_number}
use Rattle.awd_bodies.specs.Scene.{container, mesh, light, picker}
use Rattle.awd_bodies.specs.Groups.{geometry}
use Rattle.awd_bodies.specs.Skeletons.{skeleton}
use Rattle.awd_blocks.specs.Heads.{namespace_at, kind_at, flags_at, size_at, body_at, block_header}

-- the body of a block of namespace 0, by its kind; one of a kind that is not read is carried: so many bytes of any content
unfoldable pub kind_body : List Record → Sizes → ℕ → ℕ → Shape
kind_body before w kind size =
    cond (kind == kind_number Container) (container before w.matrix)
    (cond (kind == kind_number Mesh) (mesh before w.matrix)
    (cond (kind == kind_number Light) (light before w.matrix)
    (cond (kind == kind_number Picker) (picker before)
    (cond (kind == kind_number Geometry) (geometry w.geometry)
    (cond (kind == kind_number Skeleton) (skeleton w.matrix) (bytes size))))))

-- a block of another namespace is carried too
unfoldable pub body_of : List Record → Sizes → ℕ → ℕ → ℕ → Shape
body_of before w namespace kind size = cond (namespace == 0) (kind_body before w kind size) (bytes size)

-- the body of the block whose header is at a place
abbrev pub body_shape : ℕ → List Record → List ℕ → ℕ → Shape
body_shape flags before B p = body_of before (widths_of flags (flags_at B p)) (namespace_at B p) (kind_at B p) (size_at B p)

-- the byte lists that are a lawful block: a header, and a body of the size that it states, filled exactly
abbrev pub LawfulBlock : ℕ → List Record → List ℕ → Type 0
LawfulBlock flags before =
    Then (SetOf (block_header before)) (λ head body. (length body ≡ size_at head 0) × SetOf (body_shape flags before head 0) body)

-- a fault in the header, whatever field it is in
abbrev pub in_header : BlockFault → BlockFault
in_header x = Header (field_of x)

-- a body that was read up to e, of which the end is given
abbrev pub filled_to : ℕ → ℕ → Result ℕ BlockFault
filled_to end e = cond (e == end) (Ok e) (Err (Header (fault BytesLeftOver e)))

-- how a block is read: the place behind it, or its first fault
abbrev pub block_at : ℕ → List Record → List ℕ → ℕ → Result ℕ BlockFault
block_at flags before B at =
    on in_header (read_of (block_header before) B at (length B)) (λ body.
    on Header (bytes_at body (length B) (size_at B at)) (λ end.
    on (λ x. x) (read_of (body_shape flags before B at) B body end) (filled_to end)))

-- a lawful header stands at a place, and the body that it announces fits
pub record Announced (before : List Record) (B : List ℕ) (at : ℕ) : Type 0 where
  pub head : List ℕ
  pub lawful : SetOf (block_header before) head
  pub stands : Stands B at (length B) head
  pub fits : body_at at + size_at B at ≤ length B

-- x is the first fault of a block: of its header; or the body does not fit; or it is the body's own; or bytes are left over behind a whole body
abbrev pub BlockFaultOf : ℕ → List Record → List ℕ → ℕ → BlockFault → Type 0
BlockFaultOf flags before B at x =
    ((y : BlockFault) × FaultOf (block_header before) B at (length B) y × (x ≡ in_header y))
    ⊎ ((head : List ℕ) × SetOf (block_header before) head × Stands B at (length B) head × (length B < body_at at + size_at B at) × (x ≡ Header (short (body_at at))))
    ⊎ (Announced before B at × FaultOf (body_shape flags before B at) B (body_at at) (body_at at + size_at B at) x)
    ⊎ (Announced before B at × ((m : List ℕ) × SetOf (body_shape flags before B at) m × Stands B (body_at at) (body_at at + size_at B at) m
    × (length m < size_at B at) × (x ≡ Header (fault BytesLeftOver (body_at at + length m)))))
