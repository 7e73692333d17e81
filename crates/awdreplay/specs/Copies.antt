-- A document in pages that lie the other way round. Assumes nothing.
use Rattle.std.specs.Prelude.{ℕ, zero, suc, ◌+◌, ◌/◌, List, [], ◌∷◌}

-- how many pages of 512 bytes hold so many bytes
abbrev pub page_count : ℕ → ℕ
page_count n = (n + 511) / 512

-- so many numbers from 0, the last first
abbrev pub backwards : ℕ → List ℕ
backwards zero = []
backwards (suc n) = n ∷ backwards n
