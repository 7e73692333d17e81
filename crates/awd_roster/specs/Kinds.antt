-- The kinds of block, and the numbers that stand for them. Assumes nothing.
use Rattle.std.specs.Prelude.{◌≡◌, ◌≢◌, ℕ, List, [], ◌∷◌, ◌++◌, All, Result, MatchResult, codes}
use Rattle.std.specs.Fmt.{decimal}
use Rattle.awd_roster.specs.declared.kind.BlockKind.{BlockKind}
use Rattle.awd_roster.specs.declared.kind.BlockKind.TheVariants.{Geometry, Primitive, Container, Mesh, Light, Picker, Material, Skeleton}
use Rattle.awd_roster.specs.declared.kind.UnknownKind.{UnknownKind}

-- the number that stands for a kind
abbrev pub kind_number : BlockKind → ℕ
kind_number Geometry = 1
kind_number Primitive = 11
kind_number Container = 22
kind_number Mesh = 23
kind_number Light = 41
kind_number Picker = 51
kind_number Material = 81
kind_number Skeleton = 101

-- all of the kinds
abbrev pub kinds : List BlockKind
kinds = Geometry ∷ Primitive ∷ Container ∷ Mesh ∷ Light ∷ Picker ∷ Material ∷ Skeleton ∷ []

-- the kind that a number stands for, or an error with a number that stands for none of them
abbrev pub IsKindOf : ℕ → Result BlockKind UnknownKind → Type 0
IsKindOf number r = MatchResult r (λ kind. number ≡ kind_number kind) (λ e. (e.0 ≡ number) × All (λ kind. number ≢ kind_number kind) kinds)

-- what a number that stands for no kind is told by
abbrev pub unknown_text : ℕ → List ℕ
unknown_text number = codes "no kind of block has number " ++ decimal number
