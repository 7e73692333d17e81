-- The bytes that edits lay, each with its place, as a table keeps them beside its edits; no public contract names this. Assumes nothing.
use Rattle.std.specs.Prelude.{ℕ, ◌+◌, ◌^◌, ◌≤◌, cond, List, [], ◌∷◌, length, nat_lt}
use Rattle.awd_edits.specs.declared.edit.Edit.{Edit}
use Rattle.awd_edits.specs.Overlay.{bytes_laid}

-- one byte more, unless its place is beyond 64 bits
abbrev pub with_spot : List (ℕ × ℕ) → ℕ → ℕ → List (ℕ × ℕ)
with_spot below place v = cond (nat_lt place (2 ^ 64)) ((place, v) ∷ below) below

-- bytes laid from a place on, each in its turn, the latest first
abbrev pub spots_from : List (ℕ × ℕ) → ℕ → List ℕ → List (ℕ × ℕ)
spots_from below place [] = below
spots_from below place (v ∷ vs) = spots_from (with_spot below place v) (place + 1) vs

-- those of an edit over others
abbrev pub spots_over : List (ℕ × ℕ) → Edit → List (ℕ × ℕ)
spots_over below e = spots_from below e.place (bytes_laid e.laid)

-- those of edits, the latest of them first in the list
abbrev pub spots : List Edit → List (ℕ × ℕ)
spots [] = []
spots (e ∷ es) = spots_over (spots es) e

-- each edit lays at most 8 bytes
abbrev pub FewEach : List Edit → Type 0
FewEach [] = Unit {0}
FewEach (e ∷ es) = (length (bytes_laid e.laid) ≤ 8) × FewEach es
