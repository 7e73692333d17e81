-- What a person reads for each cause and fault. Assumes nothing.
use Rattle.std.specs.Prelude.{ℕ, ◌-◌, List, [], ◌∷◌, ◌++◌, Option, Some, None, codes, slice_index_or}
use Rattle.std.specs.Fmt.{decimal}
use Rattle.awd_fault.specs.declared.Cause.{Cause}
use Rattle.awd_fault.specs.declared.Fault.{Fault}
use Rattle.awd_fault.specs.Faults.{cause_number, layer_number}

-- the causes in words, by number from 1
abbrev pub cause_texts : List (List ℕ)
cause_texts =
    codes "the session is open already" ∷
    codes "the document is shorter than its header of 12 bytes" ∷
    codes "the document is longer than 16777216 bytes" ∷
    codes "the document does not begin with AWD" ∷
    codes "the version is neither 2.0 nor 2.1" ∷
    codes "the document is compressed" ∷
    codes "the body length in the header is not that of the document" ∷
    codes "the session is not open" ∷
    codes "512 blocks are taken" ∷
    codes "a field, body or run does not fit what holds it" ∷
    codes "the block's ID is out of sequence" ∷
    codes "the block is compressed" ∷
    codes "the value is not allowed here" ∷
    codes "the address names no earlier block of a fitting kind" ∷
    codes "bytes are left over at the end of the body" ∷
    codes "a face names a vertex that is not there" ∷
    codes "a stream is repeated, or faces have no vertices" ∷
    codes "no block with this number is taken" ∷
    codes "the block has no such field" ∷
    codes "256 edits stand" ∷
    codes "the block has no material at this position" ∷
    codes "a matrix has cells 0 to 11 only" ∷
    codes "the content has not the width of the cell" ∷
    codes "the content is not a number" ∷
    codes "no edit stands" ∷
    codes "the buffer is shorter than the source" ∷
    codes "the length is above that of the listed pages" ∷
    codes "a listed page is not wholly inside the run" ∷
    []

abbrev pub cause_text : Cause → List ℕ
cause_text c = slice_index_or cause_texts (cause_number c - 1) []

-- the entry, where there is one
abbrev pub entry_text : Option ℕ → List ℕ
entry_text None = []
entry_text (Some index) = codes ", entry " ++ decimal index

-- a fault for a log: the cause in words, then all that the fault holds
abbrev pub fault_text : Fault → List ℕ
fault_text f =
    cause_text f.cause ++ codes " (cause " ++ decimal (cause_number f.cause) ++ codes ", place " ++ decimal f.place ++ codes ", block " ++ decimal f.block ++ codes ", layer "
    ++ decimal (layer_number f.layer) ++ entry_text f.index ++ codes ")"
