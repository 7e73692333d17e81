-- Two edits that may lie over the same bytes lie on one field, or apart.
use Rattle.std.proofs.Common.{◌≡◌, ◌⊎◌, inl, inr, ⊎_elim, ℕ, suc, ◌+◌, ◌*◌, ◌<◌, ◌≤◌, List, length, take, Some, Ok, Option, sym, refl, ap, ◌∙◌, subst, arith}
use Rattle.std.specs.Prelude.{slice_get}
use Rattle.std.proofs.Math.Nat.{mul-le-mul_right}
use Rattle.std.proofs.lemmas.Bool.{cases_order}
use Rattle.std.proofs.lemmas.Option.{same_Some}
use Rattle.awd_header.specs.Header.{flags_of}
use Rattle.awd_roster.specs.declared.record.Record.{Record}
use Rattle.awd_blocks.specs.Heads.{body_at}
use Rattle.awd_blocks.specs.Records.{matrix_width, record_at}
use Rattle.awd_blocks.specs.Lists.{Walk, read_blocks}
use Rattle.awd_contents.specs.Contents.{materials_at}
use Rattle.awd_edits.specs.declared.edit.Edit.{Edit}
use Rattle.awd_edits.specs.declared.edit.Field.{Field}
use Rattle.awd_edits.specs.declared.edit.Field.TheVariants.{Parent, Material, Cell}
use Rattle.awd_edits.specs.Overlay.{bytes_laid}
use Rattle.awd_changes.specs.Fields.{Place, field_place}
use Rattle.awd_changes.proofs.Places.{Exactly, field_placed, name_after, count_behind}
use Rattle.awd_changes.proofs.Laid.{Lies, placed, block_laid_in, place_in_block}
use Rattle.awd_changes.proofs.Stay.{in_order}

-- neither covers a byte of the other
abbrev pub Apart : ℕ → ℕ → ℕ → ℕ → Type 0
Apart p m q n = (p + m ≤ q) ⊎ (q + n ≤ p)

turned : (p m q n : ℕ) → Apart p m q n → Apart q n p m
turned p m q n (inl h) = inr h
turned p m q n (inr h) = inl h

-- two cells
cells_apart : (body width k l at at' : ℕ) → at ≡ body + 4 + k * width → at' ≡ body + 4 + l * width
    → (k ≡ l) ⊎ Apart at width at' width
cells_apart body width k l at at' is is' =
    ⊎_elim
    (λ (same : k ≡ l). inl same)
    (⊎_elim
    (λ (before : k < l). let few : suc k * width ≤ l * width = mul-le-mul_right width before in inr (inl (omega arith)))
    (λ (behind : l < k). let few : suc l * width ≤ k * width = mul-le-mul_right width behind in inr (inr (omega arith))))
    (cases_order k l)

-- two materials
materials_apart : (q i j at at' : ℕ) → at ≡ q + 2 + 4 * i → at' ≡ q + 2 + 4 * j → (i ≡ j) ⊎ Apart at 4 at' 4
materials_apart q i j at at' is is' =
    ⊎_elim
    (λ (same : i ≡ j). inl same)
    (⊎_elim (λ (before : i < j). inr (inl (omega arith))) (λ (behind : j < i). inr (inr (omega arith))))
    (cases_order i j)

named : (f g : Field) (A : Type 0) (x y : ℕ) (make : ℕ → Field) → f ≡ make x → g ≡ make y → (x ≡ y) ⊎ A → (f ≡ g) ⊎ A
named f g A x y make is is' (inl same) = inl (is ∙ ap make same ∙ sym is')
named f g A x y make is is' (inr apart) = inr apart

-- two fields of a block whose count of materials lies behind the name
fields_apart : (f g : Field) (body width : ℕ) (o : Option ℕ) (fp gp : Place) → ((q : ℕ) → o ≡ Some q → name_after width body + 2 ≤ q)
    → Exactly f body width o fp → Exactly g body width o gp → (f ≡ g) ⊎ Apart fp.at fp.size gp.at gp.size
fields_apart Parent Parent body width o fp gp count e d = inl refl
fields_apart Parent (Material j) body width o fp gp count e (q, at-q, at, four) =
    let low = count q at-q in inr (inl (omega (arith, e.0, e.1)))
fields_apart Parent (Cell l) body width o fp gp count e d = inr (inl (omega (arith, e.0, e.1, d.1)))
fields_apart (Material i) Parent body width o fp gp count (q, at-q, at, four) d =
    let low = count q at-q in inr (inr (omega (arith, d.0, d.1)))
fields_apart (Material i) (Material j) body width o fp gp count (q, at-q, at, four) (x, at-x, at', four') =
    let same : x ≡ q = cc (sym at-x ∙ at-q) in
    let here : gp.at ≡ q + 2 + 4 * j = omega (arith, same) in
    named (Material i) (Material j) (Apart fp.at fp.size gp.at gp.size) i j Material refl refl (rw (four, four') (materials_apart q i j fp.at gp.at at here))
fields_apart (Material i) (Cell l) body width o fp gp count (q, at-q, at, four) d =
    let low = count q at-q in
    let few : suc l * width ≤ 12 * width = mul-le-mul_right width d.0 in
    inr (inr (omega (arith, d.1, d.2)))
fields_apart (Cell k) Parent body width o fp gp count e d = inr (inr (omega (arith, d.0, d.1, e.1)))
fields_apart (Cell k) (Material j) body width o fp gp count e (q, at-q, at, four) =
    let low = count q at-q in
    let few : suc k * width ≤ 12 * width = mul-le-mul_right width e.0 in
    inr (inl (omega (arith, e.1, e.2)))
fields_apart (Cell k) (Cell l) body width o fp gp count e d =
    named (Cell k) (Cell l) (Apart fp.at fp.size gp.at gp.size) k l Cell refl refl (rw (e.2, d.2) (cells_apart body width k l fp.at gp.at e.1 d.1))

module _ (O : List ℕ) (n : ℕ) (w : Walk) (read : read_blocks O n ≡ Ok w) (d e : Edit) (on-d : Lies O w d) (on-e : Lies O w e) where
  d-in : (body_at on-d.block.place ≤ on-d.place.at) × (on-d.place.at + on-d.place.size ≤ (block_laid_in O n w d read on-d).end)
  d-in = place_in_block O n w d read on-d

  e-in : (body_at on-e.block.place ≤ on-e.place.at) × (on-e.place.at + on-e.place.size ≤ (block_laid_in O n w e read on-e).end)
  e-in = place_in_block O n w e read on-e

  -- in one block
  in_one : (same : d.block ≡ e.block) → (d.field ≡ e.field) ⊎ Apart on-d.place.at on-d.place.size on-e.place.at on-e.place.size
  in_one same =
      let b = block_laid_in O n w e read on-e in
      let one : on-d.block ≡ on-e.block = same_Some _ _ (sym on-d.found ∙ ap (slice_get w.records) same ∙ on-e.found) in
      let before = take e.block w.records in
      let placed-e = placed O n w e read on-e in
      let placed-d =
      subst (λ k. field_place (flags_of O) (take k w.records) O (record_at (flags_of O) O on-e.block.place) d.field ≡ Ok on-d.place) same
      (subst (λ (x : Record). field_place (flags_of O) (take d.block w.records) O (record_at (flags_of O) O x.place) d.field ≡ Ok on-d.place) one
      (placed O n w d read on-d)) in
      let at-d = field_placed (flags_of O) before O on-e.block.place b.end b.read d.field on-d.place placed-d in
      let at-e = field_placed (flags_of O) before O on-e.block.place b.end b.read e.field on-e.place placed-e in
      fields_apart d.field e.field (body_at on-e.block.place) (matrix_width (flags_of O) O on-e.block.place)
      (materials_at (record_at (flags_of O) O on-e.block.place)) on-d.place on-e.place
      (λ q at-q. count_behind (flags_of O) before O on-e.block.place b.end b.read q at-q)
      at-d.exactly at-e.exactly

  pub edits_apart : ((d.block ≡ e.block) × (d.field ≡ e.field)) ⊎ Apart d.place (length (bytes_laid d.laid)) e.place (length (bytes_laid e.laid))
  edits_apart =
      let bd = block_laid_in O n w d read on-d in
      let be = block_laid_in O n w e read on-e in
      ⊎_elim
      (λ (same : d.block ≡ e.block).
      ⊎_elim (λ field. inl (same, field))
      (λ apart. inr (rw (on-d.at, on-e.at, on-d.size, on-e.size) apart))
      (in_one same))
      (⊎_elim
      (λ (before : d.block < e.block).
      inr (inl (omega (
        arith,
        on-d.at,
        on-d.size,
        on-e.at,
        d-in.1,
        e-in.0,
        bd.ends,
        in_order O n w read d.block e.block on-d.block on-e.block before on-d.found on-e.found,
      ))))
      (λ (behind : e.block < d.block).
      inr (inr (omega (
        arith,
        on-d.at,
        on-e.size,
        on-e.at,
        e-in.1,
        d-in.0,
        be.ends,
        in_order O n w read e.block d.block on-e.block on-d.block behind on-e.found on-d.found,
      )))))
      (cases_order d.block e.block)
