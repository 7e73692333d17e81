-- Which bytes may be laid over a field: the block is lawful with them exactly where their number is allowed there.
use Rattle.std.proofs.Common.{◌≡◌, ◌⊎◌, ◌↔◌, ℕ, ◌+◌, ◌<◌, ◌≤◌, true, List, length, take, Some, Ok, sym, refl, ap, ◌∙◌, subst, arith}
use Rattle.std.specs.Prelude.{slice_get}
use Rattle.awd_source.specs.Bytes.{le, part}
use Rattle.awd_format.specs.Sets.{Reads}
use Rattle.awd_source.proofs.Parts.{length_part}
use Rattle.awd_format.proofs.Standing.{stands-part}
use Rattle.awd_format.proofs.RunLaws.{reads-member}
use Rattle.awd_header.specs.Header.{flags_of}
use Rattle.awd_roster.specs.declared.record.Record.{Record}
use Rattle.awd_blocks.specs.Heads.{body_at}
use Rattle.awd_blocks.specs.Blocks.{LawfulBlock, block_at}
use Rattle.awd_blocks.specs.Records.{record_at}
use Rattle.awd_blocks.specs.Lists.{Walk, read_blocks}
use Rattle.awd_blocks.proofs.Whole.{block_free, block-reads}
use Rattle.awd_edits.specs.declared.edit.Field.{Field}
use Rattle.awd_edits.specs.Overlay.{lay}
use Rattle.awd_edits.proofs.Lays.{length_lay, lay_outside, part_lay, part_around}
use Rattle.awd_changes.specs.Fields.{Place, field_place}
use Rattle.awd_changes.specs.Laws.{changed}
use Rattle.awd_changes.proofs.Kept.{block_parts}
use Rattle.awd_changes.proofs.Lists.{BlockOf, block_of}
use Rattle.awd_changes.proofs.Shapes.{ButAt}
use Rattle.awd_changes.proofs.Blocks.{field_inside, block_changed, block_allowed}

-- so many bytes at a place are a lawful block exactly where a block is read there that ends with them
module _ (flags : ℕ) (before : List Record) (B : List ℕ) (at n : ℕ) (h : at + n ≤ length B) where
  -- lawful blocks
  abbrev Lawful : List ℕ → Type 0
  Lawful = LawfulBlock flags before

  -- what is read is one of them, if one stands there
  reads : Reads Lawful B at (length B) (block_at flags before B at)
  reads = block-reads flags before B at (omega (arith, h))

  -- where they are lawful, a block is read
  lawful_read : Lawful (part B at n) → block_at flags before B at ≡ Ok (at + n)
  lawful_read lawful =
      let stands = stands-part B at (length B) n h (omega arith) in
      reads-member B at (length B) Lawful (block_free flags before) (block_at flags before B at) reads (part B at n) lawful stands
      ∙ ap (λ k. Ok (at + k)) (length_part B at n h)

  -- and where one is read, they are lawful
  read_lawful : block_at flags before B at ≡ Ok (at + n) → Lawful (part B at n)
  read_lawful is =
      let (m, ends, lawful, stands) = subst (Reads Lawful B at (length B)) is reads in
      let many : length m ≡ n = omega (arith, ends) in
      subst Lawful (sym stands.is ∙ ap (part B at) many) lawful

-- of a field of a block of some that were read
module _ (O : List ℕ) (n : ℕ) (w : Walk) (k : ℕ) (r : Record) (f : Field) (fp : Place) (is : read_blocks O n ≡ Ok w)
    (found : slice_get w.records k ≡ Some r) (place : field_place (flags_of O) (take k w.records) O r f ≡ Ok fp) where
  abbrev flags : ℕ
  flags = flags_of O

  -- the blocks before it
  abbrev before : List Record
  before = take k w.records

  b : BlockOf O n w k r
  b = block_of O n w k r is found

  -- the field is one of the record that the block's bytes tell
  field_told : field_place flags before O (record_at flags O r.place) f ≡ Ok fp
  field_told = subst (λ x. field_place flags before O x f ≡ Ok fp) b.told place

  -- the block is as long as its header and its body
  ends_here : b.end ≡ r.place + body_at r.size
  ends_here = omega (arith, b.ends)

  -- it lies inside the bytes
  block_inside : b.end ≤ length O
  block_inside =
      let (parts, ends) = block_parts flags before O r.place b.end b.read in
      omega (arith, parts.fits, ends)

  -- and the field inside its body
  in_block : (body_at r.place ≤ fp.at) × (fp.at + fp.size ≤ b.end)
  in_block =
      let inside = field_inside flags before O O r.place b.end b.read f fp field_told refl (λ i h. refl) in
      (inside.0, inside.1)

  -- so the field lies behind the header, inside the taken blocks, and inside the bytes
  pub place_inside : (12 ≤ fp.at) × (fp.at + fp.size ≤ w.end) × (fp.at + fp.size ≤ length O)
  place_inside = (omega (arith, in_block.0, b.low), omega (arith, in_block.1, b.high), omega (arith, in_block.1, block_inside))

  -- as many bytes as it has are laid over it
  module _ (vs : List ℕ) (wide : length vs ≡ fp.size) where
    abbrev C : List ℕ
    C = lay O fp.at vs

    long : length O ≡ length C
    long = sym (length_lay O fp.at vs)

    -- all other bytes are as before
    elsewhere : ButAt O C fp.at fp.size
    elsewhere i h = sym (lay_outside O fp.at vs i (subst (λ n. (i < fp.at) ⊎ (fp.at + n ≤ i)) (sym wide) h))

    -- they stand there
    laid : part C fp.at fp.size ≡ vs
    laid = ap (part C fp.at) (sym wide) ∙ part_lay O fp.at vs (omega (arith, wide, place_inside.2))

    -- so their number does
    number_laid : fp.allowed (le (part C fp.at fp.size)) ≡ fp.allowed (le vs)
    number_laid = ap (λ d. fp.allowed (le d)) laid

    -- the block's bytes are changed so
    block_laid : part C r.place (body_at r.size) ≡ changed O r fp.at vs
    block_laid =
        let inside : fp.at + length vs ≤ r.place + body_at r.size = omega (arith, wide, in_block.1, ends_here) in
        part_around O fp.at vs r.place (body_at r.size) (omega (arith, in_block.0)) inside (omega (arith, ends_here, block_inside))

    room : r.place + body_at r.size ≤ length C
    room = omega (arith, ends_here, block_inside, long)

    -- where they are a lawful block, their number is allowed
    only_allowed : LawfulBlock flags before (changed O r fp.at vs) → fp.allowed (le vs) ≡ true
    only_allowed lawful =
        let read = lawful_read flags before C r.place (body_at r.size) room (subst (LawfulBlock flags before) (sym block_laid) lawful) in
        let end = r.place + body_at r.size in
        sym number_laid ∙ (block_allowed flags before O C r.place b.end b.read f fp field_told long elsewhere end read).1

    -- and where it is, they are
    all_allowed : fp.allowed (le vs) ≡ true → LawfulBlock flags before (changed O r fp.at vs)
    all_allowed good =
        let read = block_changed flags before O C r.place b.end b.read f fp field_told long elsewhere (number_laid ∙ good) in
        subst (LawfulBlock flags before) block_laid (read_lawful flags before C r.place (body_at r.size) room (read ∙ ap Ok ends_here))

    -- the block with them is lawful exactly where their number is allowed
    pub change_exact : LawfulBlock flags before (changed O r fp.at vs) ↔ (fp.allowed (le vs) ≡ true)
    change_exact = (only_allowed, all_allowed)
