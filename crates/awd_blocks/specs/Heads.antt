-- The header of a block: its numbers, and its shape after some blocks. Assumes nothing.
use Rattle.std.specs.Prelude.{ℕ, ◌+◌, Bool, not, List}
use Rattle.awd_fault.specs.declared.Cause.TheVariants.{IdOutOfSequence, CompressedBlock}
use Rattle.awd_source.specs.Bytes.{le, part}
use Rattle.awd_format.specs.Shapes.{Shape, number, bytes, any_number}
use Rattle.awd_header.specs.Header.{bit}
use Rattle.awd_roster.specs.declared.record.Record.{Record}
use Rattle.awd_roster.specs.Sequence.{in_sequence}
use Rattle.awd_blocks.specs.declared.heads.Head.{Head}

-- the numbers of the block header that begins at a place: ID (4), namespace (1), kind (1), flags (1) and the body's size (4)
abbrev pub id_at : List ℕ → ℕ → ℕ
id_at B p = le (part B p 4)

abbrev pub namespace_at : List ℕ → ℕ → ℕ
namespace_at B p = le (part B (p + 4) 1)

abbrev pub kind_at : List ℕ → ℕ → ℕ
kind_at B p = le (part B (p + 5) 1)

abbrev pub flags_at : List ℕ → ℕ → ℕ
flags_at B p = le (part B (p + 6) 1)

abbrev pub size_at : List ℕ → ℕ → ℕ
size_at B p = le (part B (p + 7) 4)

-- the body comes right behind the 11 bytes of the header
abbrev pub body_at : ℕ → ℕ
body_at p = p + 11

-- what the header says that begins at a place
abbrev pub head_of : List ℕ → ℕ → Head
head_of B p =
    record { id = id_at B p; namespace = namespace_at B p; kind = kind_at B p; flags = flags_at B p; size = size_at B p; body = body_at p }

-- flag bit 3 marks a compressed block; the other bits refuse nothing
abbrev pub uncompressed : ℕ → Bool
uncompressed flags = not (bit flags 3)

-- the header of a block after some others
abbrev pub block_header : List Record → Shape
block_header before =
    number 4 (in_sequence before) IdOutOfSequence (λ id.
    any_number 1 (λ namespace.
    any_number 1 (λ kind.
    number 1 uncompressed CompressedBlock (λ flags.
    any_number 4 (λ size. bytes 0)))))
