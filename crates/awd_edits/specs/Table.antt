-- The edits that a table has, the latest of them first. Assumes nothing.
use Rattle.std.specs.Prelude.{cond, List, ◌∷◌, length, nat_lt}
use Rattle.awd_edits.specs.declared.edit.Edit.{Edit}

-- one edit more, where there are fewer than 256
abbrev pub added : List Edit → Edit → List Edit
added es e = cond (nat_lt (length es) 256) (e ∷ es) es
