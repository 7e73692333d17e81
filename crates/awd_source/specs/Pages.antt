-- Whole pages of a run, listed by number. Assumes nothing.
use Rattle.std.specs.Prelude.{ℕ, ◌+◌, ◌*◌, Bool, cond, List, length, take, Ok, Err, Result, nat_le, nat_lt}
use Rattle.std.specs.List.{flat_map, prefix_len}
use Rattle.awd_fault.specs.Faults.{Report, of_call}
use Rattle.awd_source.specs.Bytes.{part}

-- page p of a run: its bytes 512 × p to 512 × p + 511
abbrev pub page : List ℕ → ℕ → List ℕ
page run p = part run (512 * p) 512

-- page p lies wholly inside a run
abbrev pub whole : List ℕ → ℕ → Bool
whole run p = nat_le (512 * p + 512) (length run)

-- the listed pages joined in list order and cut to a length
abbrev pub paged : List ℕ → List ℕ → ℕ → List ℕ
paged run list size = take size (flat_map (page run) list)

-- how many listed pages stand before the first that is not wholly inside the run; all of them where there is none
abbrev pub whole_front : List ℕ → List ℕ → ℕ
whole_front run list = prefix_len (whole run) list

-- cause 27 for a length above that of the listed pages; then 28 at the first page not wholly inside the run
abbrev pub filling : List ℕ → List ℕ → ℕ → Result (Unit {0}) Report
filling run list size =
    cond
    (nat_lt (512 * length list) size)
    (Err (of_call 27 0 0))
    (cond (nat_lt (whole_front run list) (length list)) (Err (of_call 28 (whole_front run list) 0)) (Ok tt))
