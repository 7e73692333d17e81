-- A stream of a sub-geometry, as a shape. Assumes nothing.
use Rattle.std.specs.Prelude.{◌≡◌, ◌≢◌, ℕ, ◌*◌, ◌%◌, Bool, cond, ◌||◌, ◌==◌, Result, MatchResult}
use Rattle.awd_fault.specs.declared.Cause.TheVariants.{ValueNotAllowed}
use Rattle.awd_format.specs.Shapes.{Shape, number, bytes, any_number}
use Rattle.awd_geometry.specs.declared.streams.StreamType.{StreamType}
use Rattle.awd_geometry.specs.declared.streams.StreamType.TheVariants.{Vertices, Faces, TextureCoordinates, Normals}
use Rattle.awd_geometry.specs.declared.streams.UnknownStream.{UnknownStream}

-- the number of a type of stream
abbrev pub stream_number : StreamType → ℕ
stream_number Vertices = 1
stream_number Faces = 2
stream_number TextureCoordinates = 3
stream_number Normals = 4

-- the type with a number, or an error with a number that no type has
abbrev pub StreamOf : ℕ → Result StreamType UnknownStream → Type 0
StreamOf n r = MatchResult r (λ t. stream_number t ≡ n) (λ e. (e.0 ≡ n) × ((t : StreamType) → stream_number t ≢ n))

-- how many bytes one item of a stream of a type has, coordinates being of a width: a vertex (1) and a normal (4) three coordinates, a
-- texture coordinate (3) two, a face (2) three indices of 16 bits; of any other type every byte is one
abbrev pub item_size : ℕ → ℕ → ℕ
item_size width type =
    cond (type == 1 || type == 4) (3 * width) (cond (type == 3) (2 * width) (cond (type == 2) 6 1))

-- a size is that of whole items
abbrev pub whole : ℕ → ℕ → ℕ → Bool
whole width type size = size % item_size width type == 0

-- a stream: a type (1), a field code (1), a size (4) of whole items, and that many bytes
abbrev pub stream : ℕ → ℕ → Shape
stream width i = any_number 1 (λ type. any_number 1 (λ code. number 4 (whole width type) ValueNotAllowed (λ size. bytes size)))
