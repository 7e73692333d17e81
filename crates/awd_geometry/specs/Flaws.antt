-- What may be wrong with the streams of a sub-geometry taken together, in a run of them. Assumes nothing.
use Rattle.std.specs.Prelude.{ℕ, zero, suc, ◌+◌, ◌*◌, ◌/◌, ◌<◌, min, Bool, cond, ◌&&◌, List, [], ◌∷◌, length, Some, None, Option, IfSome, ◌==◌, nat_lt, slice_index, slice_get, filter}
use Rattle.std.specs.List.{find}
use Rattle.std.specs.Option.{option_map}
use Rattle.awd_fault.specs.declared.Cause.TheVariants.{IndexTooLarge, StreamOutOfPlace}
use Rattle.awd_source.specs.Bytes.{le, part}
use Rattle.awd_source.specs.Numbers.{first_not_below}
use Rattle.awd_block_fault.specs.declared.FieldFault.{FieldFault}
use Rattle.awd_block_fault.specs.Faults.{fault}

-- a place, if there is one, that lies in a run
abbrev pub Inside : List ℕ → Option ℕ → Type 0
Inside m place = IfSome place (λ p. p < length m)

-- the size of the content of the stream at a place, which comes behind its type (1) and its field code (1)
abbrev pub size_at : List ℕ → ℕ → ℕ
size_at m p = le (part m (p + 2) 4)

-- the place behind the stream at a place
abbrev pub behind : List ℕ → ℕ → ℕ
behind m p = p + 6 + size_at m p

-- the places of the streams, from the one at p on; each stream has a byte, so as many turns as bytes are enough
abbrev pub places_within : List ℕ → ℕ → ℕ → List ℕ
places_within m zero p = []
places_within m (suc n) p = cond (nat_lt p (length m)) (p ∷ places_within m n (behind m p)) []

abbrev pub places : List ℕ → ℕ → List ℕ
places m p = places_within m (length m) p

-- whether a stream of a type stands at a place
abbrev pub has_type : List ℕ → ℕ → ℕ → Bool
has_type m type p = nat_lt p (length m) && slice_index m p == type

-- the place of the first stream of a type
abbrev pub first : List ℕ → ℕ → Option ℕ
first m type = find (has_type m type) (places m 0)

-- the place of the second stream of a type
abbrev pub second : List ℕ → ℕ → Option ℕ
second m type = slice_get (filter (has_type m type) (places m 0)) 1

-- the earlier of two places, of which there may be one or none
abbrev pub earlier : Option ℕ → Option ℕ → Option ℕ
earlier None q = q
earlier (Some p) None = Some p
earlier (Some p) (Some q) = Some (min p q)

-- the place of the first such number in the content of the stream at a place, which comes behind its size (4)
abbrev pub index_not_below : ℕ → List ℕ → ℕ → Option ℕ
index_not_below limit m f = option_map (λ p. f + 6 + p) (first_not_below limit (part m (f + 6) (size_at m f)))

-- how many vertices the stream at a place has
abbrev pub vertex_count : ℕ → List ℕ → ℕ → ℕ
vertex_count width m p = size_at m p / (3 * width)

-- faces, if there are any, need vertices, and each of their indices is below the number of these
abbrev pub faces_flaw : ℕ → List ℕ → Option ℕ → Option ℕ → Option FieldFault
faces_flaw width m None vertices = None
faces_flaw width m (Some f) None = Some (fault StreamOutOfPlace f)
faces_flaw width m (Some f) (Some v) = option_map (fault IndexTooLarge) (index_not_below (vertex_count width m v) m f)

-- a repeated stream, if there is one, comes before what is wrong with faces
abbrev pub or_repeated : Option ℕ → Option FieldFault → Option FieldFault
or_repeated None flaw = flaw
or_repeated (Some p) flaw = Some (fault StreamOutOfPlace p)

-- the first flaw of a run of streams: the first stream that repeats type 1 (vertices) or 2 (faces), then faces without vertices, then the
-- first index that is too large
abbrev pub streams_flaw : ℕ → List ℕ → Option FieldFault
streams_flaw width m = or_repeated (earlier (second m 1) (second m 2)) (faces_flaw width m (first m 2) (first m 1))
