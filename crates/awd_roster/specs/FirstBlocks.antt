-- A table of the first blocks with an ID, for IDs from 1 on. Assumes nothing.
use Rattle.std.specs.Prelude.{◌≡◌, ℕ, zero, suc, ◌+◌, cond, List, slice_index, slice_set, position, Option, Some, None, EachIndex, ◌==◌}
use Rattle.awd_roster.specs.declared.record.Record.{Record}

-- how a number is noted: from 1, and 0 where there is none
abbrev pub noted : Option ℕ → ℕ
noted None = 0
noted (Some n) = n + 1

-- the table has for each ID, from 1, the number of the first block with it
abbrev pub FirstNoted : List ℕ → List Record → Type 0
FirstNoted table rs = EachIndex table (λ k. slice_index table k ≡ noted (position (λ r. r.id == k + 1) rs))

-- a table with the number of one block more, if it is the first with its ID
abbrev pub noting : List ℕ → ℕ → ℕ → List ℕ
noting table zero number = table
noting table (suc k) number = cond (slice_index table k == 0) (slice_set table k (number + 1)) table
