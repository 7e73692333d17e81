-- Causes in words, by their numbers. Assumes nothing.
use Rattle.std.specs.Prelude.{ℕ, List, [], ◌∷◌, slice_index_or}
use Rattle.awd_fault.specs.Texts.{cause_texts}

-- the words for a number; none for 0 and for a number above 28
abbrev pub words_for : ℕ → List ℕ
words_for number = slice_index_or ([] ∷ cause_texts) number []
