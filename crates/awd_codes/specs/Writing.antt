-- What is written over the start of a slice. Assumes nothing.
use Rattle.std.specs.Prelude.{List, ◌++◌, length, take, drop}

-- the first of xs, as many as there is room for, and behind them what was there
abbrev pub over : {A : Type 0} → List A → List A → List A
over xs before = take (length before) xs ++ drop (length xs) before
