-- Fields at a place in a holder, which is what a field must fit: the document, a body or a measured run. A holder is given by the place
-- where it ends. Assumes nothing.
use Rattle.std.specs.Prelude.{ℕ, ◌+◌, min, cond, List, length, Ok, Err, Result, nat_le}
use Rattle.awd_source.specs.Bytes.{le, part}
use Rattle.awd_block_fault.specs.declared.FieldFault.{FieldFault}
use Rattle.awd_block_fault.specs.Faults.{short}

-- where a holder ends: no later than the bytes do
abbrev pub limit : List ℕ → ℕ → ℕ
limit B end = min end (length B)

-- so many bytes of any content: the place behind them
abbrev pub bytes_at : ℕ → ℕ → ℕ → Result ℕ FieldFault
bytes_at at end size = cond (nat_le (at + size) end) (Ok (at + size)) (Err (short at))

-- a number of so many bytes: its value
abbrev pub number_at : List ℕ → ℕ → ℕ → ℕ → Result ℕ FieldFault
number_at B at end width = cond (nat_le (at + width) end) (Ok (le (part B at width))) (Err (short at))
