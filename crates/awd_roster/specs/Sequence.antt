-- IDs in sequence. Assumes nothing.
use Rattle.std.specs.Prelude.{ℕ, ◌+◌, Bool, not, ◌||◌, List, count_by, ◌==◌}
use Rattle.awd_roster.specs.declared.record.Record.{Record}

-- how many of some blocks are not temporary; a temporary block has the ID 0
abbrev pub persistent : List Record → ℕ
persistent rs = count_by (λ r. not (r.id == 0)) rs

-- an ID that the block after some others may have: 0, or the next of 1, 2, 3 and so on
abbrev pub in_sequence : List Record → ℕ → Bool
in_sequence before id = id == 0 || id == persistent before + 1
