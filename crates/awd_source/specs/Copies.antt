-- What a copy of bytes to the start of a buffer answers and leaves. Assumes nothing.
use Rattle.std.specs.Prelude.{ℕ, cond, List, ◌++◌, length, drop, Ok, Err, Result, nat_lt}
use Rattle.awd_fault.specs.Faults.{Report, of_call}

-- cause 26 for a buffer shorter than the bytes
abbrev pub copying : List ℕ → List ℕ → Result (Unit {0}) Report
copying bs buffer = cond (nat_lt (length buffer) (length bs)) (Err (of_call 26 0 0)) (Ok tt)

-- the bytes at the buffer's start and the rest as it was; all as it was where the buffer is too short
abbrev pub copied : List ℕ → List ℕ → List ℕ
copied bs buffer = cond (nat_lt (length buffer) (length bs)) buffer (bs ++ drop (length bs) buffer)
