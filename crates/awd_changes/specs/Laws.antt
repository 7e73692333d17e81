-- What may be laid over the fields of blocks, and what it leaves of them. Assumes nothing.
use Rattle.std.specs.Prelude.{◌≡◌, ℕ, ◌+◌, ◌-◌, ◌≤◌, ◌⊎◌, ◌↔◌, true, List, ◌∷◌, ◌++◌, length, take, slice_get, Some, Ok}
use Rattle.awd_source.specs.Bytes.{le, part}
use Rattle.awd_header.specs.Header.{flags_of}
use Rattle.awd_roster.specs.declared.record.Record.{Record}
use Rattle.awd_roster.specs.Table.{but_parents}
use Rattle.awd_blocks.specs.Heads.{body_at}
use Rattle.awd_blocks.specs.Blocks.{LawfulBlock}
use Rattle.awd_blocks.specs.Lists.{Walk, read_blocks}
use Rattle.awd_edits.specs.declared.edit.Edit.{Edit}
use Rattle.awd_edits.specs.declared.edit.Field.{Field}
use Rattle.awd_edits.specs.Overlay.{bytes_laid, lay, with_edit}
use Rattle.awd_changes.specs.Fields.{Place, field_place}
use Rattle.awd_changes.specs.Standing.{may_lie, may_stand}

-- the bytes of a block, with others laid over those at a place of the document
abbrev pub changed : List ℕ → Record → ℕ → List ℕ → List ℕ
changed B r place vs = lay (part B r.place (body_at r.size)) (place - r.place) vs

-- two edits lie on one field
abbrev pub OneField : Edit → Edit → Type 0
OneField d e = (d.block ≡ e.block) × (d.field ≡ e.field)

-- neither covers a byte of the other
abbrev pub Apart : Edit → Edit → Type 0
Apart d e = (d.place + length (bytes_laid d.laid) ≤ e.place) ⊎ (e.place + length (bytes_laid e.laid) ≤ d.place)

pub record ChangeLaws : Type 0 where
  -- of a field of a block that was read after some others, and as many bytes as the field has: the block with those bytes in the field is lawful
  -- after the same blocks exactly where their number may stand there
  pub exact : (B : List ℕ) (n : ℕ) (w : Walk) (k : ℕ) (r : Record) (f : Field) (p : Place)
      → read_blocks B n ≡ Ok w → slice_get w.records k ≡ Some r → field_place (flags_of B) (take k w.records) B r f ≡ Ok p
      → (vs : List ℕ) → length vs ≡ p.size
      → LawfulBlock (flags_of B) (take k w.records) (changed B r p.at vs) ↔ (p.allowed (le vs) ≡ true)
  -- of an edit that may be laid over bytes that hold n blocks: they hold as many with it, which end where they did and tell the same but for
  -- their parents
  pub kept : (B : List ℕ) (n : ℕ) (w : Walk) (e : Edit) → read_blocks B n ≡ Ok w → may_lie B n e ≡ true
      → (rs : List Record) × (read_blocks (with_edit B e) n ≡ Ok (record { records = rs; end = w.end })) × (but_parents rs ≡ but_parents w.records)
  -- it moves no field: any edit may be laid over the bytes with it exactly where it may be laid over those without
  pub moves_none : (B : List ℕ) (n : ℕ) (w : Walk) (e d : Edit) → read_blocks B n ≡ Ok w → may_lie B n e ≡ true
      → may_lie (with_edit B e) n d ≡ may_lie B n d
  -- of edits that may stand each may be taken away, from whatever place in their order
  pub without_one : (B : List ℕ) (later : List Edit) (e : Edit) (es : List Edit) (n : ℕ) → may_stand B (later ++ e ∷ es) n ≡ true
      → may_stand B (later ++ es) n ≡ true
  -- two edits that may be laid over the same bytes lie on one field, or neither covers a byte of the other
  pub apart : (B : List ℕ) (n : ℕ) (w : Walk) (d e : Edit) → read_blocks B n ≡ Ok w → may_lie B n d ≡ true → may_lie B n e ≡ true
      → OneField d e ⊎ Apart d e
