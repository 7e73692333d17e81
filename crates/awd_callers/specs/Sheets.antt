-- An entry of a caller's own. Assumes nothing.
use Rattle.std.specs.Prelude.{ℕ}
use Rattle.awd_format.specs.Shapes.{Shape, also, counted}
use Rattle.awd_attributes.specs.Attributes.{properties, user_list}

-- a sheet: properties and a user list
abbrev pub sheet : ℕ → Shape
sheet i = also properties user_list

-- so many sheets
abbrev pub sheet_run : ℕ → Shape
sheet_run count = counted count sheet
