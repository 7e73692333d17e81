-- Sets of byte lists, and what it is to read a member of one. Assumes nothing.
use Rattle.std.specs.Prelude.{◌≡◌, ℕ, ◌+◌, ◌≤◌, List, [], ◌∷◌, ◌++◌, length, Ok, Err, Result}
use Rattle.std.specs.List.{flat_map}
use Rattle.awd_source.specs.Bytes.{part}

-- m stands in B at a place, inside a holder that ends at end
pub record Stands (B : List ℕ) (at end : ℕ) (m : List ℕ) : Type 0 where
  pub fits : at + length m ≤ end
  pub is : part B at (length m) ≡ m

-- a result is the place behind a member that stands there, or else no member stands there
abbrev pub Reads : {F : Type 0} → (List ℕ → Type 0) → List ℕ → ℕ → ℕ → Result ℕ F → Type 0
Reads P B at end (Ok e) = (m : List ℕ) × (e ≡ at + length m) × P m × Stands B at end m
Reads P B at end (Err x) = (m : List ℕ) → P m → Stands B at end m → ⊥

-- no member begins another member
abbrev pub NoneBegins : (List ℕ → Type 0) → Type 0
NoneBegins P = (m t : List ℕ) → P m → P (m ++ t) → t ≡ []

-- any bytes, so many
abbrev pub Wide : ℕ → List ℕ → Type 0
Wide n m = length m ≡ n

-- a member of one set, and then one of another, which may depend on the first
abbrev pub Then : (List ℕ → Type 0) → (List ℕ → List ℕ → Type 0) → List ℕ → Type 0
Then P Q bs = (m : List ℕ) × (t : List ℕ) × (bs ≡ m ++ t) × P m × Q m t

-- each of a list of entries is a member of the set of its index, the first of index i
abbrev pub Members : (ℕ → List ℕ → Type 0) → ℕ → List (List ℕ) → Type 0
Members M i [] = Unit {0}
Members M i (m ∷ ms) = M i m × Members M (i + 1) ms

-- entries one after another, as bytes
abbrev pub in_row : List (List ℕ) → List ℕ
in_row ms = flat_map (λ m. m) ms

-- n members in a row, the first of index i
abbrev pub Counted : (ℕ → List ℕ → Type 0) → ℕ → ℕ → List ℕ → Type 0
Counted M i n bs = (ms : List (List ℕ)) × (bs ≡ in_row ms) × (length ms ≡ n) × Members M i ms

-- members in a row that fill so many bytes, the first of index i
abbrev pub Measured : (ℕ → List ℕ → Type 0) → ℕ → ℕ → List ℕ → Type 0
Measured M i size bs = (ms : List (List ℕ)) × (bs ≡ in_row ms) × (length bs ≡ size) × Members M i ms
