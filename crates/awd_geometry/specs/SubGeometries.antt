-- A sub-geometry, as a shape. Assumes nothing.
use Rattle.std.specs.Prelude.{ℕ}
use Rattle.awd_format.specs.Shapes.{Shape, measured, also, sound, any_number}
use Rattle.awd_attributes.specs.Attributes.{properties, user_list}
use Rattle.awd_geometry.specs.Streams.{stream}
use Rattle.awd_geometry.specs.Flaws.{streams_flaw}

-- streams that fill so many bytes and have no flaw together
abbrev pub streams : ℕ → ℕ → Shape
streams width total = sound (measured total (stream width)) (streams_flaw width)

-- a sub-geometry: a total (4), properties, streams that fill so many bytes, and a user list. The total is that of the streams alone.
abbrev pub sub_geometry : ℕ → ℕ → Shape
sub_geometry width i = any_number 4 (λ total. also properties (also (streams width total) user_list))
