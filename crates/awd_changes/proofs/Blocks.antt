-- A block with another number in one of its fields: whether it is read, and what it tells then.
use Rattle.std.proofs.Common.{◌≡◌, inl, ℕ, ◌+◌, ◌≤◌, true, List, length, Some, None, Option, Ok, sym, refl, ap, ◌∙◌, subst, arith}
use Rattle.awd_source.specs.Bytes.{le, part}
use Rattle.awd_fault.specs.declared.Cause.TheVariants.{ValueNotAllowed}
use Rattle.awd_format.specs.Shapes.{Shape, bytes, read_of, Filled, any}
use Rattle.awd_header.specs.Widths.{widths_of}
use Rattle.awd_roster.specs.declared.record.Record.{Record}
use Rattle.awd_roster.specs.declared.record.Target.TheVariants as target
use Rattle.awd_roster.specs.Table.{with_parent}
use Rattle.awd_blocks.specs.Heads.{namespace_at, kind_at, flags_at, size_at, body_at, block_header}
use Rattle.awd_blocks.specs.Blocks.{body_shape, block_at}
use Rattle.awd_blocks.specs.Records.{matrix_width, record_at}
use Rattle.awd_blocks.proofs.Bodies.{body-filled}
use Rattle.awd_blocks.proofs.Told.{address_end, numbers_end, body_read, head_told}
use Rattle.awd_edits.specs.declared.edit.Field.{Field}
use Rattle.awd_edits.specs.declared.edit.Field.TheVariants.{Parent, Material, Cell}
use Rattle.awd_changes.specs.Fields.{Place, field_place}
use Rattle.awd_changes.proofs.Kept.{SameHead, header_kept, by_body, block_parts, body_shape_kept}
use Rattle.awd_changes.proofs.Shapes.{ButAt, number_read, part_same, free_inside, free_kept, free_changed}
use Rattle.awd_changes.proofs.Places.{ParentPlace, name_after, FieldPlaced, field_placed}

-- what a block tells once a number stands in a field of it: its parent, if the field is that
abbrev pub told_after : Field → Record → ℕ → Record
told_after Parent r v = with_parent r (Some v)
told_after (Material i) r v = r
told_after (Cell k) r v = r

-- a record with the parent that it has
own_parent : (r : Record) (parent : Option ℕ) → r.parent ≡ parent → with_parent r parent ≡ r
own_parent r parent is = ap (with_parent r) (sym is)

-- of a record with the parent that is first in a body, which a field's place says of it
module _ (B C : List ℕ) (body : ℕ) (r : Record) (has : r.parent ≡ Some (le (part B body 4))) where
  told_by : (f : Field) (fp : Place) → ParentPlace f body fp → (body + 4 ≤ fp.at → part B body 4 ≡ part C body 4)
      → with_parent r (Some (le (part C body 4))) ≡ told_after f r (le (part C fp.at fp.size))
  told_by Parent fp (place, four) same =
      let here : part C fp.at fp.size ≡ part C body 4 = ap (λ q. part C q fp.size) place ∙ ap (part C body) four in
      ap (λ d. with_parent r (Some (le d))) (sym here)
  told_by (Material i) fp behind same = own_parent r (Some (le (part C body 4))) (has ∙ ap (λ d. Some (le d)) (same behind))
  told_by (Cell k) fp behind same = own_parent r (Some (le (part C body 4))) (has ∙ ap (λ d. Some (le d)) (same behind))

-- of a block that was read, and other bytes in one of its fields
module _ (flags : ℕ) (before : List Record) (B C : List ℕ) (p e : ℕ) (is : block_at flags before B p ≡ Ok e) (f : Field) (fp : Place)
    (place : field_place flags before B (record_at flags B p) f ≡ Ok fp) (long : length B ≡ length C) (same : ButAt B C fp.at fp.size) where
  abbrev L : Shape
  L = body_shape flags before B p

  -- where the name is
  abbrev name : ℕ
  name = name_after (matrix_width flags B p) (body_at p)

  abbrev placed : FieldPlaced flags before B p e f fp
  placed = field_placed flags before B p e is f fp place

  -- the body lies inside the bytes
  body_inside : (body_at p ≤ e) × (e ≤ length B)
  body_inside =
      let (parts, ends) = block_parts flags before B p e is in
      (omega (arith, ends), omega (arith, ends, parts.fits))

  L_read : read_of L B (body_at p) e ≡ Ok e
  L_read = body_read flags before B p e is

  filled : Filled L
  filled = body-filled before (widths_of flags (flags_at B p)) (namespace_at B p) (kind_at B p) (size_at B p)

  -- the field lies inside the body, and has a number that is allowed
  pub field_inside : (body_at p ≤ fp.at) × (fp.at + fp.size ≤ e) × (fp.allowed (le (part B fp.at fp.size)) ≡ true)
  field_inside = free_inside B e fp.at fp.size fp.allowed L (body_at p) e body_inside.0 L_read placed.free

  -- the header is as it was
  header_same : SameHead B C p × (read_of (block_header before) C p (length C) ≡ Ok (body_at p))
  header_same = header_kept flags before B C p e is long (λ i l k. same i (inl (omega (arith, field_inside.0))))

  -- so the block ends where it did, if it is read
  end_same : e ≡ body_at p + size_at C p
  end_same = (block_parts flags before B p e is).1 ∙ ap (λ n. body_at p + n) (sym (header_same.0).size)

  -- and its body is of the same shape
  shape_same : body_shape flags before C p ≡ L
  shape_same = body_shape_kept flags B C p header_same.0 before

  -- with an allowed number there, the block is read as before
  pub block_changed : fp.allowed (le (part C fp.at fp.size)) ≡ true → block_at flags before C p ≡ Ok e
  block_changed good =
      let read = free_changed B C e fp.at fp.size fp.allowed body_inside.1 long same good L filled (body_at p) e body_inside.0 L_read placed.free in
      let read-shape = subst (λ S. read_of S C (body_at p) e ≡ Ok e) (sym shape_same) read in
      let read-end = subst (λ n. read_of (body_shape flags before C p) C (body_at p) n ≡ Ok n) end_same read-shape in
      by_body flags before C p header_same.1 (omega (arith, end_same, body_inside.1)) read-end ∙ ap Ok (sym end_same)

  -- and if the block is read, it ends where it did, and the number is allowed
  pub block_allowed : (x : ℕ) → block_at flags before C p ≡ Ok x → (x ≡ e) × (fp.allowed (le (part C fp.at fp.size)) ≡ true)
  block_allowed x is-x =
      let ends : x ≡ e = (block_parts flags before C p x is-x).1 ∙ sym end_same in
      let read-x = subst (λ S. read_of S C (body_at p) x ≡ Ok x) shape_same (body_read flags before C p x is-x) in
      let read = subst (λ n. read_of L C (body_at p) n ≡ Ok n) ends read-x in
      let free = free_kept B C e fp.at fp.size fp.allowed body_inside.1 long same L filled (body_at p) e body_inside.0 L_read placed.free in
      (ends, (free_inside C e fp.at fp.size fp.allowed L (body_at p) e body_inside.0 read free).2)

  -- the length of the name is as it was
  name_same : le (part C name 2) ≡ le (part B name 2)
  name_same =
      let told = head_told flags before B p e is placed.headed in
      let at-m = address_end B e target.Parent before (body_at p) told.matrix_place told.address in
      let at-n = numbers_end B e 12 (matrix_width flags B p) told.matrix_place told.name_place told.cells in
      let (fits, any-is, rest) = number_read 2 any ValueNotAllowed (λ n. bytes n) B told.name_place e told.behind told.name in
      ap le (sym (part_same B C fp.at fp.size long same name 2 placed.name (omega (arith, body_inside.1))))

  -- what a block with a scene head tells
  told_same : record_at flags C p ≡ with_parent (record_at flags B p) (Some (le (part C (body_at p) 4)))
  told_same =
      let h = header_same.0 in
      let w : matrix_width flags C p ≡ matrix_width flags B p = ap (λ x. (widths_of flags x).matrix) h.flags in
      rw (h.id, h.namespace, h.kind, h.size, w, placed.headed, name_same) refl

  -- what the block tells then: the same, but for its parent where the field is that
  pub record_changed : record_at flags C p ≡ told_after f (record_at flags B p) (le (part C fp.at fp.size))
  record_changed =
      let parent = (head_told flags before B p e is placed.headed).parent_told in
      told_same
      ∙ told_by B C (body_at p) (record_at flags B p) parent f fp placed.parent
      (λ behind. part_same B C fp.at fp.size long same (body_at p) 4 (inl behind) (omega (arith, field_inside.1, body_inside.1)))

  -- so it is the same but for its parent in any case
  pub record_kin : with_parent (record_at flags C p) None ≡ with_parent (record_at flags B p) None
  record_kin = ap (λ r. with_parent r None) told_same
