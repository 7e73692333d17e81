-- One block behind others: how long it is, and what was found where it was read.
use Rattle.std.proofs.Common.{◌≡◌, ℕ, ◌+◌, ◌≤◌, List, length, Ok, Result, sym, ap, ◌∙◌, subst, arith, length-append}
use Rattle.awd_block_fault.specs.declared.BlockFault.{BlockFault}
use Rattle.awd_block_fault.specs.declared.BlockFault.TheVariants.{Field}
use Rattle.awd_block_fault.proofs.Passed.{on-ok}
use Rattle.awd_source.specs.Fields.{number_at}
use Rattle.awd_source.proofs.Parts.{number-read}
use Rattle.awd_format.specs.Sets.{Stands, Reads}
use Rattle.awd_format.specs.Shapes.{read_of}
use Rattle.awd_format.proofs.Standing.{stands-first}
use Rattle.awd_header.specs.Header.{flags_of}
use Rattle.awd_roster.specs.declared.record.Record.{Record}
use Rattle.awd_blocks.specs.Heads.{size_at, body_at, block_header}
use Rattle.awd_blocks.specs.Blocks.{LawfulBlock, in_header, block_at}
use Rattle.awd_blocks.proofs.Headers.{header-length, size_same}
use Rattle.awd_blocks.proofs.Whole.{block-reads}

-- a block is as long as its header says
pub block-length : (flags : ℕ) (before : List Record) (B : List ℕ) (at end : ℕ) (m : List ℕ) → LawfulBlock flags before m → Stands B at end m → body_at at + size_at B at ≡ at + length m
block-length flags before B at end m (head, body, is, p, (len, q)) s =
    let l = header-length before head p in
    let first = stands-first B at end head body (subst (Stands B at end) is s) in
    omega (arith, ap length is, length-append head body, l, len, size_same B at end head first l)

module _ (B : List ℕ) where
  -- how a block is read after some others
  abbrev pub next_at : List Record → ℕ → Result ℕ BlockFault
  next_at before at = block_at (flags_of B) before B at

  -- no block is read from beyond the last byte
  begins-inside : (before : List Record) (at e : ℕ) → next_at before at ≡ Ok e → at ≤ length B
  begins-inside before at e is =
      let (body, head, _) = on-ok in_header (read_of (block_header before) B at (length B)) _ e is in
      let (id, fits, _) = on-ok Field (number_at B at (length B) 4) _ body head in
      omega (arith, number-read B at (length B) 4 id fits)

  -- what is read is a lawful block that stands there
  pub read-one : (before : List Record) (at e : ℕ) → next_at before at ≡ Ok e
      → (m : List ℕ) × (e ≡ at + length m) × LawfulBlock (flags_of B) before m × Stands B at (length B) m
  read-one before at e is =
      subst (Reads (LawfulBlock (flags_of B) before) B at (length B)) is (block-reads (flags_of B) before B at (begins-inside before at e is))

  -- it ends where its header says
  pub read-end : (before : List Record) (at e : ℕ) → next_at before at ≡ Ok e → e ≡ body_at at + size_at B at
  read-end before at e is =
      let (m, place, p, s) = read-one before at e is in
      place ∙ sym (block-length (flags_of B) before B at (length B) m p s)
