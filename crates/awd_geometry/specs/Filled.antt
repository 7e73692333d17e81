-- Streams and sub-geometries are not empty, so runs of them are lawful.
use Rattle.std.specs.Prelude.{ℕ, []}
use Rattle.awd_format.specs.Shapes.{SetOf, Filled}
use Rattle.awd_format.proofs.SetLaws.{filled-then}
use Rattle.awd_attributes.specs.Filled.{properties-filled, user-list-filled}
use Rattle.awd_geometry.specs.Streams.{stream}
use Rattle.awd_geometry.specs.SubGeometries.{sub_geometry}

pub stream-filled : (width i : ℕ) → (SetOf (stream width i) [] → ⊥) × Filled (stream width i)
stream-filled width i = (filled-then 0 _, λ type code size. tt)

pub sub-geometry-filled : (width i : ℕ) → (SetOf (sub_geometry width i) [] → ⊥) × Filled (sub_geometry width i)
sub-geometry-filled width i = (filled-then 3 _, λ total. (properties-filled.1, (stream-filled width, user-list-filled.1)))
