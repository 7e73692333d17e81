-- Bytes laid at places, as they are kept: the places, each once; the byte that shows at each; and of each byte laid, the latest first,
-- what it covers. No public contract names this. Assumes nothing.
use Rattle.std.specs.Prelude.{◌≡◌, ◌<◌, ◌-◌, ℕ, List, [], ◌∷◌, length, take, slice_index, slice_set, Some, None, Option}
use Rattle.awd_places.specs.declared.laid.Covered.{Covered}
use Rattle.awd_places.specs.Numbers.{number_of}

-- the bytes laid: the latest shows, and the others are those that were laid before what it covers showed no more
abbrev pub laid_by : List ℕ → List ℕ → List (Option Covered) → List (ℕ × ℕ)
laid_by ps bs [] = []
laid_by ps bs (None ∷ older) =
    (slice_index ps (length ps - 1), slice_index bs (length ps - 1)) ∷ laid_by (take (length ps - 1) ps) (take (length ps - 1) bs) older
laid_by ps bs (Some c ∷ older) = (slice_index ps c.number, slice_index bs c.number) ∷ laid_by ps (slice_set bs c.number c.byte) older

-- what is kept fits together
abbrev pub Covers : List ℕ → List ℕ → List (Option Covered) → Type 0
Covers ps bs [] = (ps ≡ []) × (bs ≡ [])
Covers ps bs (None ∷ older) = (0 < length ps) × (length bs ≡ length ps) × Covers (take (length ps - 1) ps) (take (length ps - 1) bs) older
Covers ps bs (Some c ∷ older) = (number_of ps (slice_index ps c.number) ≡ Some c.number) × Covers ps (slice_set bs c.number c.byte) older
