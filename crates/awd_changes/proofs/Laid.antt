-- One edit laid over bytes that hold blocks: they hold as many, which end at the same place and tell the same but for a parent.
use Rattle.std.proofs.Common.{◌≡◌, ℕ, ◌+◌, ◌≤◌, true, false, ◌&&◌, eqb, List, length, take, drop, Some, None, Ok, Err, Option, Result, sym, refl, ap, ◌∙◌, subst, inl, inr, arith}
use Rattle.std.specs.Prelude.{slice_get}
use Rattle.std.specs.Option.{option_map_or}
use Rattle.std.proofs.lemmas.Bool.{and_parts, eqb-true}
use Rattle.awd_source.specs.Bytes.{le, part}
use Rattle.awd_header.specs.Header.{opening, flags_of}
use Rattle.awd_roster.specs.declared.record.Record.{Record}
use Rattle.awd_roster.specs.Table.{with_parent, reparented, but_parents}
use Rattle.awd_roster.proofs.Kin.{reparented_kin, reparented_same, reparented_back}
use Rattle.awd_blocks.specs.Heads.{body_at}
use Rattle.awd_blocks.specs.Blocks.{block_at}
use Rattle.awd_blocks.specs.Records.{record_at}
use Rattle.awd_blocks.specs.Lists.{Walk, read_blocks}
use Rattle.awd_blocks.proofs.Rows.{read_walked}
use Rattle.awd_blocks.proofs.Told.{head_told}
use Rattle.awd_edits.specs.declared.edit.Edit.{Edit}
use Rattle.awd_edits.specs.declared.edit.Field.{Field}
use Rattle.awd_edits.specs.declared.edit.Field.TheVariants.{Parent, Material, Cell}
use Rattle.awd_edits.specs.Overlay.{bytes_laid, with_edit}
use Rattle.awd_edits.proofs.Lays.{length_lay, lay_outside, part_lay, drop_behind}
use Rattle.awd_changes.specs.Fields.{Place, field_place}
use Rattle.awd_changes.specs.Standing.{lies_on, may_lie}
use Rattle.awd_changes.proofs.Header.{flags_laid, opening_laid}
use Rattle.awd_changes.proofs.Kept.{block_parts}
use Rattle.awd_changes.proofs.Lists.{BlockOf, block_of, list_changed}
use Rattle.awd_changes.proofs.Places.{ParentPlace, field_placed}
use Rattle.awd_changes.proofs.Shapes.{ButAt}
use Rattle.awd_changes.proofs.Blocks.{told_after, field_inside, block_changed, record_changed}

-- the field that an edit lies on, in a block of those that were read
pub record Lies (O : List ℕ) (w : Walk) (e : Edit) : Type 0 where
  pub block : Record
  pub found : slice_get w.records e.block ≡ Some block
  pub place : Place
  pub placed : field_place (flags_of O) (take e.block w.records) O block e.field ≡ Ok place
  pub at : e.place ≡ place.at
  pub size : length (bytes_laid e.laid) ≡ place.size
  pub good : place.allowed (le (bytes_laid e.laid)) ≡ true

lies-on : (O : List ℕ) (w : Walk) (e : Edit) (r : Record) → slice_get w.records e.block ≡ Some r → (p : Result Place ℕ) → field_place (flags_of O) (take e.block w.records) O r e.field ≡ p → lies_on e p ≡ true → Lies O w e
lies-on O w e r found (Ok p) placed is =
    let (at, rest) = and_parts (eqb e.place p.at) (eqb (length (bytes_laid e.laid)) p.size && p.allowed (le (bytes_laid e.laid))) is in
    let (size, good) = and_parts (eqb (length (bytes_laid e.laid)) p.size) (p.allowed (le (bytes_laid e.laid))) rest in
    record { block = r; found = found; place = p; placed = placed; at = eqb-true e.place p.at at; size = eqb-true (length (bytes_laid e.laid)) p.size size; good = good }
lies-on O w e r found (Err cause) placed is = absurd (cc is)

lies-in : (O : List ℕ) (w : Walk) (e : Edit) (o : Option Record) → slice_get w.records e.block ≡ o
    → option_map_or (λ r. lies_on e (field_place (flags_of O) (take e.block w.records) O r e.field)) o false ≡ true → Lies O w e
lies-in O w e (Some r) found is = lies-on O w e r found (field_place (flags_of O) (take e.block w.records) O r e.field) refl is
lies-in O w e None found is = absurd (cc is)

pub lies : (O : List ℕ) (n : ℕ) (w : Walk) (e : Edit) → read_blocks O n ≡ Ok w → may_lie O n e ≡ true → Lies O w e
lies O n w e read is =
    let at-w = sym (read_walked O n w read) in
    lies-in O w e (slice_get w.records e.block) refl (subst (λ v. option_map_or (λ r. lies_on e (field_place (flags_of O) (take e.block v.records) O r e.field)) (slice_get v.records e.block) false ≡ true) at-w is)

-- what blocks tell once a number stands in a field of one of them
abbrev pub records_after : Field → List Record → ℕ → ℕ → List Record
records_after Parent rs k v = reparented rs k (Some v)
records_after (Material i) rs k v = rs
records_after (Cell c) rs k v = rs

pub after_kin : (f : Field) (rs : List Record) (k v : ℕ) → but_parents (records_after f rs k v) ≡ but_parents rs
after_kin Parent rs k v = reparented_kin rs k (Some v)
after_kin (Material i) rs k v = refl
after_kin (Cell c) rs k v = refl

-- the parent that a record tells then
abbrev parent_after : Field → Record → ℕ → Option ℕ
parent_after Parent r v = Some v
parent_after (Material i) r v = r.parent
parent_after (Cell c) r v = r.parent

told-is : (f : Field) (r : Record) (v : ℕ) → told_after f r v ≡ with_parent r (parent_after f r v)
told-is Parent r v = refl
told-is (Material i) r v = refl
told-is (Cell c) r v = refl

records-are : (f : Field) (rs : List Record) (k v : ℕ) (r : Record) → slice_get rs k ≡ Some r → reparented rs k (parent_after f r v) ≡ records_after f rs k v
records-are Parent rs k v r found = refl
records-are (Material i) rs k v r found = reparented_same rs k r found
records-are (Cell c) rs k v r found = reparented_same rs k r found

-- and once it is taken away again, where the older one is at the place
records-back : (f : Field) (rs : List Record) (k v : ℕ) (r : Record) (old body : ℕ) (fp : Place) → slice_get rs k ≡ Some r → ParentPlace f body fp → (fp.at ≡ body → r.parent ≡ Some old)
    → records_after f (records_after f rs k v) k old ≡ rs
records-back Parent rs k v r old body fp found place is = ap (reparented (reparented rs k (Some v)) k) (sym (is place.0)) ∙ reparented_back rs k (Some v) r found
records-back (Material i) rs k v r old body fp found place is = refl
records-back (Cell c) rs k v r old body fp found place is = refl

module _ (O : List ℕ) (n : ℕ) (w : Walk) (e : Edit) (read : read_blocks O n ≡ Ok w) (on-field : Lies O w e) where
  abbrev vs : List ℕ
  vs = bytes_laid e.laid

  abbrev C : List ℕ
  C = with_edit O e

  abbrev r : Record
  r = on-field.block

  abbrev fp : Place
  fp = on-field.place

  pub b : BlockOf O n w e.block r
  b = block_of O n w e.block r read on-field.found

  abbrev pub block_laid_in : BlockOf O n w e.block r
  block_laid_in = b

  -- the field, of the block as its bytes tell it
  pub placed : field_place (flags_of O) (take e.block w.records) O (record_at (flags_of O) O r.place) e.field ≡ Ok fp
  placed = subst (λ x. field_place (flags_of O) (take e.block w.records) O x e.field ≡ Ok fp) b.told on-field.placed

  long : length O ≡ length C
  long = sym (length_lay O e.place vs)

  same : ButAt O C fp.at fp.size
  same i (inl h) = sym (lay_outside O e.place vs i (inl (omega (arith, on-field.at))))
  same i (inr h) = sym (lay_outside O e.place vs i (inr (omega (arith, on-field.at, on-field.size))))

  inside : (body_at r.place ≤ fp.at) × (fp.at + fp.size ≤ b.end)
  inside = let (low, high, good) = field_inside (flags_of O) (take e.block w.records) O C r.place b.end b.read e.field fp placed long same in (low, high)

  pub place_in_block : (body_at r.place ≤ fp.at) × (fp.at + fp.size ≤ block_laid_in.end)
  place_in_block = inside

  -- the block ends inside the bytes
  ends : b.end ≤ length O
  ends = let (parts, end) = block_parts (flags_of O) (take e.block w.records) O r.place b.end b.read in omega (arith, end, parts.fits)

  behind-header : 12 ≤ e.place
  behind-header = omega (arith, on-field.at, inside.0, b.low)

  -- what was laid stands in the field
  stands : part C fp.at fp.size ≡ vs
  stands =
      ap (λ q. part C q fp.size) (sym on-field.at) ∙ ap (part C e.place) (sym on-field.size)
      ∙ part_lay O e.place vs (omega (arith, on-field.at, on-field.size, inside.1, ends))

  good : fp.allowed (le (part C fp.at fp.size)) ≡ true
  good = ap (λ d. fp.allowed (le d)) stands ∙ on-field.good

  flags-same : flags_of O ≡ flags_of C
  flags-same = sym (flags_laid O e.place vs behind-header)

  -- the header is as it was
  pub header_laid : (flags_of C ≡ flags_of O) × (opening C ≡ opening O)
  header_laid = (flags_laid O e.place vs behind-header, opening_laid O e.place vs behind-header)

  -- and so is all that lies behind the blocks
  pub behind_laid : drop w.end C ≡ drop w.end O
  behind_laid = drop_behind O e.place vs w.end (omega (arith, on-field.at, on-field.size, inside.1, b.high))

  -- where the edit lies
  pub place_laid : (12 ≤ e.place) × (e.place + length vs ≤ w.end)
  place_laid = (behind-header, omega (arith, on-field.at, on-field.size, inside.1, b.high))

  told : record_at (flags_of C) C r.place ≡ with_parent (record_at (flags_of O) O r.place) (parent_after e.field r (le vs))
  told =
      ap (λ flags. record_at flags C r.place) (sym flags-same)
      ∙ record_changed (flags_of O) (take e.block w.records) O C r.place b.end b.read e.field fp placed long same
      ∙ ap (λ d. told_after e.field (record_at (flags_of O) O r.place) (le d)) stands
      ∙ told-is e.field (record_at (flags_of O) O r.place) (le vs)
      ∙ ap (λ x. with_parent (record_at (flags_of O) O r.place) (parent_after e.field x (le vs))) (sym b.told)

  -- the blocks are read as before, and tell the same but for a parent
  pub read_laid : read_blocks C n ≡ Ok (record { records = records_after e.field w.records e.block (le vs); end = w.end })
  read_laid =
      let changed = block_changed (flags_of O) (take e.block w.records) O C r.place b.end b.read e.field fp placed long same good in
      list_changed O C long flags-same n w e.block r b
      (λ i h. same i (inl (omega (arith, inside.0))))
      (λ i h. same i (inr (omega (arith, inside.1))))
      (subst (λ flags. block_at flags (take e.block w.records) C r.place ≡ Ok b.end) flags-same changed)
      (parent_after e.field r (le vs)) told
      ∙ ap (λ rs. Ok (record { records = rs; end = w.end })) (records-are e.field w.records e.block (le vs) r on-field.found)

  -- once the edit is taken away they tell what they told
  pub told_back : records_after e.field (records_after e.field w.records e.block (le vs)) e.block (le (part O e.place 4)) ≡ w.records
  told_back =
      let p = field_placed (flags_of O) (take e.block w.records) O r.place b.end b.read e.field fp placed in
      let parent = (head_told (flags_of O) (take e.block w.records) O r.place b.end b.read p.headed).parent_told in
      records-back e.field w.records e.block (le vs) r (le (part O e.place 4)) (body_at r.place) fp on-field.found p.parent
      (λ at. ap (λ (x : Record). x.parent) b.told ∙ parent ∙ ap (λ q. Some (le (part O q 4))) (sym (on-field.at ∙ at)))

-- so with an edit that may be laid over them there are as many blocks, which end where they did and tell the same but for their parents
pub change_kept : (B : List ℕ) (n : ℕ) (w : Walk) (e : Edit) → read_blocks B n ≡ Ok w → may_lie B n e ≡ true
    → (rs : List Record) × (read_blocks (with_edit B e) n ≡ Ok (record { records = rs; end = w.end })) × (but_parents rs ≡ but_parents w.records)
change_kept B n w e read may =
    let v = le (bytes_laid e.laid) in
    (records_after e.field w.records e.block v, read_laid B n w e read (lies B n w e read may), after_kin e.field w.records e.block v)
