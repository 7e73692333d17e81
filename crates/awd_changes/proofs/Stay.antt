-- An edit that lies on a field of a block moves no field: each is where it was, as large as it was, and may hold the numbers that it could.
use Rattle.std.proofs.Common.{◌≡◌, ◌⊎◌, inl, inr, ⊎_elim, ℕ, zero, suc, ◌+◌, ◌*◌, ◌<◌, ◌≤◌, Bool, false, ltb, cond, ◌&&◌, List, [], ◌∷◌, length, take, Some, None, Ok, Err, Option, Result, sym, refl, ap, ◌∙◌, arith}
use Rattle.std.specs.Prelude.{slice_get}
use Rattle.std.specs.Option.{option_map, option_map_or, option_and_then, ok_or}
use Rattle.std.specs.Result.{result_map_both}
use Rattle.std.proofs.Math.Path.{fun_ext}
use Rattle.std.proofs.lemmas.Bool.{cases_order}
use Rattle.std.proofs.lemmas.Option.{slice_get-map, same_Some}
use Rattle.awd_source.specs.Bytes.{le, part}
use Rattle.awd_header.specs.Header.{flags_of}
use Rattle.awd_header.specs.Widths.{widths_of}
use Rattle.awd_roster.specs.declared.record.Record.{Record}
use Rattle.awd_roster.specs.declared.record.Target.{Target}
use Rattle.awd_roster.specs.declared.record.Target.TheVariants as target
use Rattle.awd_roster.specs.Addresses.{lawful_address}
use Rattle.awd_roster.specs.Table.{with_parent, but_parents}
use Rattle.awd_roster.proofs.Kin.{address_kin, take_kin}
use Rattle.awd_blocks.specs.Heads.{flags_at, body_at}
use Rattle.awd_blocks.specs.Records.{has_head, matrix_width, record_at}
use Rattle.awd_blocks.specs.Lists.{Walk, read_blocks}
use Rattle.awd_blocks.proofs.Rows.{read_walked}
use Rattle.awd_contents.specs.Contents.{is_mesh, materials_at, material_place}
use Rattle.awd_edits.specs.declared.edit.Edit.{Edit}
use Rattle.awd_edits.specs.declared.edit.Field.{Field}
use Rattle.awd_edits.specs.declared.edit.Field.TheVariants.{Parent, Material, Cell}
use Rattle.awd_edits.specs.Overlay.{bytes_laid, with_edit}
use Rattle.awd_edits.proofs.Lays.{part_away}
use Rattle.awd_changes.specs.Fields.{Place, address_place, cell_of_width, field_place}
use Rattle.awd_changes.specs.Standing.{lies_on, may_lie}
use Rattle.awd_changes.proofs.Lists.{BlockOf, block_of}
use Rattle.awd_changes.proofs.Places.{FieldPlaced, field_placed, count_inside}
use Rattle.awd_changes.proofs.Laid.{Lies, records_after, after_kin, placed, block_laid_in, place_in_block, header_laid, read_laid}

-- what is found by a place that there may be
and_then_same : {A : Type 0} (o : Option ℕ) (f g : ℕ → Option A) → ((q : ℕ) → o ≡ Some q → f q ≡ g q) → option_and_then f o ≡ option_and_then g o
and_then_same None f g same = refl
and_then_same (Some q) f g same = same q refl

-- Two records that tell the same but for their parents, behind such, in documents that agree on the block's flags and its count of materials:
-- a field is at the same place.
module _ (flags flags' : ℕ) (before before' : List Record) (B C : List ℕ) (r r' : Record)
    (same-flags : flags' ≡ flags) (kin : but_parents before' ≡ but_parents before) (kin-r : with_parent r' None ≡ with_parent r None)
    (header : flags_at C r.place ≡ flags_at B r.place) (count : (q : ℕ) → materials_at r ≡ Some q → part C q 2 ≡ part B q 2) where
  -- its own parent is not looked at
  by_record : (f : Field) → field_place flags' before' C r' f ≡ field_place flags' before' C r f
  by_record Parent = ap (λ x. field_place flags' before' C x Parent) kin-r
  by_record (Material i) = ap (λ x. field_place flags' before' C x (Material i)) kin-r
  by_record (Cell k) = ap (λ x. field_place flags' before' C x (Cell k)) kin-r

  lawful : (t : Target) → lawful_address t before' ≡ lawful_address t before
  lawful t = fun_ext (address_kin t before' before kin)

  material : (i : ℕ) → material_place C r i ≡ material_place B r i
  material i = and_then_same (materials_at r) _ _ (λ q at. ap (λ d. cond (ltb i (le d)) (Some (q + 2 + 4 * i)) None) (count q at))

  width : matrix_width flags' C r.place ≡ matrix_width flags B r.place
  width = ap (λ f. (widths_of f (flags_at C r.place)).matrix) same-flags ∙ ap (λ h. (widths_of flags h).matrix) header

  by_bytes : (f : Field) → field_place flags' before' C r f ≡ field_place flags before B r f
  by_bytes Parent = ap (λ l. cond (has_head r.namespace r.kind) (Ok (address_place l (body_at r.place))) (Err 19)) (lawful target.Parent)
  by_bytes (Material i) =
      ap (λ l. cond (is_mesh r) (result_map_both (address_place l) (λ c. c) (ok_or (material_place C r i) 21)) (Err 19)) (lawful target.Material)
      ∙ ap (λ o. cond (is_mesh r) (result_map_both (address_place (lawful_address target.Material before)) (λ c. c) (ok_or o 21)) (Err 19)) (material i)
  by_bytes (Cell k) =
      let by : ℕ → Result Place ℕ =
      λ w. cond (has_head r.namespace r.kind)
      (result_map_both (cell_of_width w) (λ c. c) (ok_or (cond (has_head r.namespace r.kind && ltb k 12) (Some (body_at r.place + 4 + k * w)) None) 22))
      (Err 19) in
      ap by width

  pub place_same : (f : Field) → field_place flags' before' C r' f ≡ field_place flags before B r f
  place_same f = by_record f ∙ by_bytes f

-- records that are the same but for their parents have such at each number
kin_found : (rs ss : List Record) → but_parents rs ≡ but_parents ss → (k : ℕ)
    → option_map (λ r. with_parent r None) (slice_get rs k) ≡ option_map (λ r. with_parent r None) (slice_get ss k)
kin_found rs ss kin k =
    sym (slice_get-map (λ r. with_parent r None) rs k) ∙ ap (λ xs. slice_get xs k) kin ∙ slice_get-map (λ r. with_parent r None) ss k

-- one of the first is found among them
found_first : (rs : List Record) (k j : ℕ) (x : Record) → j < k → slice_get rs j ≡ Some x → slice_get (take k rs) j ≡ Some x
found_first [] k j x low is = absurd (cc is)
found_first (r ∷ rs) zero j x low is = absurd (omega arith)
found_first (r ∷ rs) (suc k) zero x low is = is
found_first (r ∷ rs) (suc k) (suc j) x low is = found_first rs k j x (omega arith) is

-- a block ends before one of a higher number begins
pub in_order : (B : List ℕ) (n : ℕ) (w : Walk) → read_blocks B n ≡ Ok w → (j k : ℕ) (x y : Record) → j < k → slice_get w.records j ≡ Some x
    → slice_get w.records k ≡ Some y → body_at x.place + x.size ≤ y.place
in_order B n w read j k x y low at-x at-y =
    let later = block_of B n w k y read at-y in
    let earlier = block_of B k (record { records = take k w.records; end = y.place }) j x later.front (found_first w.records k j x low at-x) in
    omega (arith, earlier.ends, earlier.high)

lies_alike : (d : Edit) (P Q : Record → Result Place ℕ) (o o' : Option Record)
    → option_map (λ r. with_parent r None) o' ≡ option_map (λ r. with_parent r None) o
    → ((x x' : Record) → o ≡ Some x → with_parent x' None ≡ with_parent x None → Q x' ≡ P x)
    → option_map_or (λ r. lies_on d (Q r)) o' false ≡ option_map_or (λ r. lies_on d (P r)) o false
lies_alike d P Q None None kin same = refl
lies_alike d P Q None (Some x') kin same = absurd (cc kin)
lies_alike d P Q (Some x) None kin same = absurd (cc kin)
lies_alike d P Q (Some x) (Some x') kin same = ap (lies_on d) (same x x' refl (same_Some _ _ kin))

module _ (O : List ℕ) (n : ℕ) (w : Walk) (e : Edit) (read : read_blocks O n ≡ Ok w) (on-field : Lies O w e) where
  abbrev vs : List ℕ
  vs = bytes_laid e.laid

  abbrev C : List ℕ
  C = with_edit O e

  abbrev b : BlockOf O n w e.block on-field.block
  b = block_laid_in O n w e read on-field

  here : (on-field.place.at ≡ e.place) × (body_at on-field.block.place ≤ e.place) × (e.place + length vs ≤ b.end)
  here =
      let inside = place_in_block O n w e read on-field in
      (sym on-field.at, omega (arith, inside.0, on-field.at), omega (arith, inside.1, on-field.at, on-field.size))

  -- of any block
  module _ (k : ℕ) (x : Record) (found : slice_get w.records k ≡ Some x) where
    bx : BlockOf O n w k x
    bx = block_of O n w k x read found

    -- a part of it that the edit does not touch is as it was
    untouched : (q m : ℕ) → x.place ≤ q → q + m ≤ bx.end → (k ≡ e.block → (q + m ≤ e.place) ⊎ (e.place + length vs ≤ q)) → part C q m ≡ part O q m
    untouched q m low high own =
        part_away O e.place vs q m
        (⊎_elim
        own
        (⊎_elim
        (λ (before : k < e.block). inl (omega (arith, high, bx.ends, here.1, in_order O n w read k e.block x on-field.block before found on-field.found)))
        (λ (behind : e.block < k). inr (omega (arith, low, here.2, b.ends, in_order O n w read e.block k on-field.block x behind on-field.found found))))
        (cases_order k e.block))

    one-block : k ≡ e.block → x ≡ on-field.block
    one-block same = same_Some _ _ (sym found ∙ ap (slice_get w.records) same ∙ on-field.found)

    header_stays : flags_at C x.place ≡ flags_at O x.place
    header_stays =
        ap le (untouched (x.place + 6) 1 (omega arith) (omega (arith, bx.ends))
        (λ same. let place : x.place ≡ on-field.block.place = ap (λ (r : Record). r.place) (one-block same) in inl (omega (arith, here.1, place))))

    fp-placed : FieldPlaced (flags_of O) (take e.block w.records) O on-field.block.place b.end e.field on-field.place
    fp-placed = field_placed (flags_of O) (take e.block w.records) O on-field.block.place b.end b.read e.field on-field.place (placed O n w e read on-field)

    count_stays : (q : ℕ) → materials_at x ≡ Some q → part C q 2 ≡ part O q 2
    count_stays q at-q =
        let told-x : materials_at (record_at (flags_of O) O x.place) ≡ Some q = ap materials_at (sym bx.told) ∙ at-q in
        let inside = count_inside (flags_of O) (take k w.records) O x.place bx.end bx.read q told-x in
        untouched q 2 (omega (arith, inside.0)) (omega (arith, inside.1))
        (λ same.
        let told-e : materials_at (record_at (flags_of O) O on-field.block.place) ≡ Some q = ap materials_at (sym b.told ∙ sym (one-block same)) ∙ at-q in
        ⊎_elim (λ (ahead : q + 2 ≤ on-field.place.at). inl (omega (arith, here.0)))
        (λ (behind : on-field.place.at + on-field.place.size ≤ q). inr (omega (arith, here.0, on-field.size)))
        (fp-placed.count q told-e))

  -- so an edit may lie over the bytes exactly where it might before
  pub lie_laid : (d : Edit) → may_lie C n d ≡ may_lie O n d
  lie_laid d =
      let w' : Walk = record { records = records_after e.field w.records e.block (le vs); end = w.end } in
      let by : List ℕ → Walk → Bool = λ B v. option_map_or (λ r. lies_on d (field_place (flags_of B) (take d.block v.records) B r d.field)) (slice_get v.records d.block) false in
      let kin = after_kin e.field w.records e.block (le vs) in
      ap (by C) (sym (read_walked C n w' (read_laid O n w e read on-field)))
      ∙ lies_alike d (λ r. field_place (flags_of O) (take d.block w.records) O r d.field)
      (λ r. field_place (flags_of C) (take d.block w'.records) C r d.field)
      (slice_get w.records d.block) (slice_get w'.records d.block) (kin_found w'.records w.records kin d.block)
      (λ x x' found kin-x. place_same (flags_of O) (flags_of C) (take d.block w.records) (take d.block w'.records) O C x x'
      (header_laid O n w e read on-field).0 (take_kin d.block w'.records w.records kin) kin-x
      (header_stays d.block x found) (count_stays d.block x found) d.field)
      ∙ ap (by O) (read_walked O n w read)
