-- Edits that may stand over the bytes of a document of which blocks are taken. Assumes nothing.
use Rattle.std.specs.Prelude.{ℕ, Bool, false, ◌&&◌, List, [], ◌∷◌, length, take, slice_get, Ok, Err, Result, is_ok, ◌==◌}
use Rattle.std.specs.Option.{option_map_or}
use Rattle.awd_source.specs.Bytes.{le}
use Rattle.awd_header.specs.Header.{flags_of}
use Rattle.awd_blocks.specs.Lists.{walk, read_blocks}
use Rattle.awd_edits.specs.declared.edit.Edit.{Edit}
use Rattle.awd_edits.specs.Overlay.{bytes_laid}
use Rattle.awd_changes.specs.Fields.{Place, field_place}

-- an edit lays so many bytes as a field has over just that, and a number that may stand there
abbrev pub lies_on : Edit → Result Place ℕ → Bool
lies_on e (Ok p) = e.place == p.at && (length (bytes_laid e.laid) == p.size && p.allowed (le (bytes_laid e.laid)))
lies_on e (Err cause) = false

-- an edit may be laid over bytes that hold n blocks: what it names is a field of one of them
abbrev pub may_lie : List ℕ → ℕ → Edit → Bool
may_lie B n e =
    let rs = (walk B n).records in
    option_map_or (λ r. lies_on e (field_place (flags_of B) (take e.block rs) B r e.field)) (slice_get rs e.block) false

-- bytes hold n lawful blocks, and each of some edits may be laid over them
abbrev pub may_stand : List ℕ → List Edit → ℕ → Bool
may_stand B [] n = is_ok (read_blocks B n)
may_stand B (e ∷ es) n = may_lie B n e && may_stand B es n
