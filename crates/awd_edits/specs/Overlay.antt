-- Edits laid over bytes. Assumes nothing.
use Rattle.std.specs.Prelude.{ℕ, ◌+◌, ◌-◌, cond, List, [], ◌∷◌, set, None, Option, nat_le, slice_get}
use Rattle.std.specs.Option.{option_or}
use Rattle.awd_edits.specs.declared.edit.Edit.{Edit}
use Rattle.awd_edits.specs.declared.edit.Laid.{Laid}
use Rattle.awd_edits.specs.declared.edit.Laid.TheVariants.{Four, Eight}

-- bytes laid over those from a place on, each in its turn; none is laid beyond the last
abbrev pub lay : List ℕ → ℕ → List ℕ → List ℕ
lay B place [] = B
lay B place (v ∷ vs) = set (lay B (place + 1) vs) place v

-- the bytes that an edit lays
abbrev pub bytes_laid : Laid → List ℕ
bytes_laid (Four bytes) = bytes
bytes_laid (Eight bytes) = bytes

-- an edit laid over bytes
abbrev pub with_edit : List ℕ → Edit → List ℕ
with_edit B e = lay B e.place (bytes_laid e.laid)

-- edits laid over bytes, the latest of them first in the list
abbrev pub overlay : List ℕ → List Edit → List ℕ
overlay B [] = B
overlay B (e ∷ es) = with_edit (overlay B es) e

-- the byte that an edit lays at a place, or none where it lays none
abbrev pub byte_laid : Edit → ℕ → Option ℕ
byte_laid e at = cond (nat_le e.place at) (slice_get (bytes_laid e.laid) (at - e.place)) None

-- what the latest edit that covers a place lays there, or none where no edit does
abbrev pub latest : List Edit → ℕ → Option ℕ
latest [] at = None
latest (e ∷ es) at = option_or (byte_laid e at) (latest es at)
