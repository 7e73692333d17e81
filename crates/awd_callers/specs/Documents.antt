-- What reading a whole document comes to, in the format's words. Assumes nothing.
use Rattle.std.specs.Prelude.{◌≡◌, ℕ, ◌+◌, ◌≤◌, ◌⊎◌, true, List, [], length, Err}
use Rattle.awd_fault.specs.Faults.{Report}
use Rattle.awd_format.specs.Sets.{in_row}
use Rattle.awd_header.specs.Header.{Lawful, FirstBroken, rules}
use Rattle.awd_blocks.specs.Lists.{Holds, HoldsOne}
use Rattle.awd_session.specs.State.{State}
use Rattle.awd_session.specs.Laws.{NextRight}

-- n lawful blocks, 512 at most, stand behind the document's header, one after another, and fill the bytes
abbrev pub Whole : List ℕ → ℕ → Type 0
Whole B n =
    (n ≤ 512) × ((ms : List (List ℕ)) × (length ms ≡ n) × Holds B ms × (12 + length (in_row ms) ≡ length B))

-- an open session over bytes that has taken n blocks, with no edit over them
abbrev pub having_taken : List ℕ → ℕ → State
having_taken B n = record { source = B; opened = true; taken = n; edits = [] }

-- a fault stands behind as many lawful blocks as it tells, and bytes are left: there are 512, or no lawful block begins where they end and it is the
-- first there
abbrev pub Behind : List ℕ → Report → Type 0
Behind B f = HoldsOne B f.block × NextRight (having_taken B f.block) (Err f)

-- a refused document: its header is not lawful, and the fault is that of the first rule broken; or it is lawful, and the fault is that of a block
abbrev pub Refused : List ℕ → Report → Type 0
Refused B f = ((Lawful B → ⊥) × FirstBroken (rules B) f) ⊎ (Lawful B × Behind B f)
