-- What is promised of a session, from the blocks that its bytes hold.
use Rattle.std.proofs.Common.{◌≡◌, ◌↔◌, inl, inr, ⊎_elim, ℕ, ◌+◌, ◌*◌, ◌^◌, ◌<◌, ◌≤◌, true, false, cond, eqb, ltb, leb, List, [], length, take, Some, None, Option, Ok, Err, Result, is_some, sym, refl, ap, ◌∙◌, subst, arith}
use Rattle.std.specs.Int.{w32, to_le_bytes}
use Rattle.std.specs.Option.{option_map, option_and_then, ok_or}
use Rattle.std.specs.Result.{result_map_both}
use Rattle.std.proofs.lemmas.Bool.{cond_both, eqb-true, leb-true, leb-false, ltb-true, ltb-false}
use Rattle.awd_fault.specs.Faults.{Report, of_call}
use Rattle.awd_source.specs.Bytes.{le, part}
use Rattle.awd_block_fault.specs.declared.BlockFault.{BlockFault}
use Rattle.awd_block_fault.specs.Faults.{in_block, on}
use Rattle.awd_format.specs.Sets.{Reads}
use Rattle.awd_header.specs.Header.{flags_of}
use Rattle.awd_roster.specs.declared.record.Record.{Record}
use Rattle.awd_roster.specs.declared.record.Target.TheVariants as target
use Rattle.awd_roster.specs.Addresses.{lawful_address}
use Rattle.awd_blocks.specs.declared.blocks.Block.{Block}
use Rattle.awd_blocks.specs.Heads.{body_at}
use Rattle.awd_blocks.specs.Blocks.{LawfulBlock, block_at}
use Rattle.awd_blocks.specs.Records.{has_head, record_at}
use Rattle.awd_blocks.specs.Lists.{walk, read_blocks, told_from, HoldsOne, Walk}
use Rattle.awd_blocks.proofs.Whole.{block-filled, block-reads}
use Rattle.awd_blocks.proofs.Rows.{read_walked, read_holds, read_inside, walk-told}
use Rattle.awd_contents.specs.Contents.{is_mesh, material_place}
use Rattle.awd_edits.specs.declared.edit.Edit.{Edit}
use Rattle.std.proofs.lemmas.List.{nil_from_length}
use Rattle.awd_edits.specs.declared.edit.Field.{Field}
use Rattle.awd_edits.specs.declared.edit.Field.TheVariants.{Parent, Material}
use Rattle.awd_edits.specs.declared.edit.Laid.TheVariants.{Four}
use Rattle.awd_edits.proofs.Lays.{length_4, spelled_4}
use Rattle.awd_edits.proofs.Latest.{latest_wins}
use Rattle.awd_changes.specs.Fields.{Place, address_place, field_place}
use Rattle.awd_changes.proofs.Exact.{change_exact}
use Rattle.awd_session.specs.State.{State, bytes_of, records_of, end_of, next_answer, record_answer}
use Rattle.awd_session.specs.Edits.{Asked, place_in, with_room, address_edit, edit_answer}
use Rattle.awd_session.specs.Laws.{LawfulNext}
use Rattle.awd_session.specs.Promise.{Takes, LawfulChange, RefusedRightly, Promise}

-- what is not there is none
pub not_some : {A : Type 0} (o : Option A) → is_some o ≡ false → o ≡ None
not_some None shut = refl
not_some (Some x) shut = absurd (cc shut)

-- a material is one of a mesh instance
of_mesh : (B : List ℕ) (r : Record) (position place : ℕ) → material_place B r position ≡ Some place → is_mesh r ≡ true
of_mesh B r position place is =
    cond_both (is_mesh r) (option_map (λ s. s.place + s.length + 4) r.name) None
    (λ o. option_and_then (λ q. cond (ltb position (le (part B q 2))) (Some (q + 2 + 4 * position)) None) o ≡ Some place → is_mesh r ≡ true)
    (λ mesh at. mesh)
    (λ other at. absurd (cc at))
    is

-- a session whose taken blocks were read
module _ (s : State) (held : read_blocks (bytes_of s) s.taken ≡ Ok (walk (bytes_of s) s.taken)) where
  abbrev B : List ℕ
  B = bytes_of s

  abbrev rs : List Record
  rs = records_of s

  -- its bytes hold one list of so many blocks
  one : HoldsOne B s.taken
  one = read_holds B s.taken (walk B s.taken) held

  -- and its records tell these
  told_of_one : rs ≡ told_from B 12 one.blocks
  told_of_one = ap (λ n. (walk B n).records) (sym one.many) ∙ walk-told B 12 [] one.blocks one.held

  -- of the next block
  module _ (long : 12 ≤ length B) where
    -- the block that follows, or none, makes the answer that is promised
    abbrev Next : Result (Option Block) Report → Type 0
    Next x = Takes (result_map_both (option_map (λ block. s.taken)) (λ f. f) x) ↔ ((s.taken < 512) × LawfulNext s)

    -- how it is read
    abbrev reading : Result ℕ BlockFault
    reading = block_at (flags_of B) rs B (end_of s)

    abbrev block_by : Result ℕ BlockFault → Result (Option Block) Report
    block_by r =
        result_map_both Some (in_block s.taken)
        (on (λ x. x) r (λ e. Ok (record { told = record_at (flags_of B) B (end_of s); behind = e })))

    -- no lawful block begins where no byte is left
    none_left : end_of s ≡ length B → LawfulNext s → ⊥
    none_left end (m, lawful, stands) =
        block-filled (flags_of B) rs (subst (LawfulBlock (flags_of B) rs) (nil_from_length m (omega (arith, stands.fits, end))) lawful)

    -- where fewer than 512 are taken
    by_reading : s.taken < 512 → (r : Result ℕ BlockFault) → Reads (LawfulBlock (flags_of B) rs) B (end_of s) (length B) r → Next (block_by r)
    by_reading few (Ok e) (m, place, lawful, stands) = (λ t. (few, (m, lawful, stands)), λ w. (s.taken, refl))
    by_reading few (Err x) none = (λ t. absurd (cc t.1), λ w. absurd (none w.1.0 w.1.1 w.1.2))

    next_taken : s.opened ≡ true → Takes (next_answer s) ↔ ((s.taken < 512) × LawfulNext s)
    next_taken opened =
        let high = (read_inside B s.taken (walk B s.taken) long held).1 in
        rw (opened)
        (cond_both (eqb (end_of s) (length B)) (Ok None) (cond (leb 512 s.taken) (Err (of_call 9 (end_of s) 512)) (block_by reading)) Next
        (λ end. (λ t. absurd (cc t.1), λ w. absurd (none_left (eqb-true (end_of s) (length B) end) w.1)))
        (λ more.
        cond_both (leb 512 s.taken) (Err (of_call 9 (end_of s) 512)) (block_by reading) Next
        (λ full. (λ t. absurd (cc t.1), λ w. absurd (omega (arith, leb-true 512 s.taken full, w.0))))
        (λ few. by_reading (leb-false 512 s.taken few) reading (block-reads (flags_of B) rs B (end_of s) high))))

  -- of an address laid over a field of a taken block
  module _ (opened : s.opened ≡ true) (number address : ℕ) (small : address < 2 ^ 32) (r : Record) (found : record_answer s number ≡ Some r)
      (f : Field) (p : Place) (place : field_place (flags_of B) (take number rs) B r f ≡ Ok p) (four : p.size ≡ 4) where
    -- the field is there
    placed : place_in s number f ≡ Ok p
    placed = rw (opened, found, place) refl

    -- the changed block is lawful exactly where the address is allowed
    lawful_change : LawfulChange s number r p.at address ↔ (p.allowed address ≡ true)
    lawful_change =
        let vs = to_le_bytes w32 address in
        subst (λ v. LawfulChange s number r p.at address ↔ (p.allowed v ≡ true)) (spelled_4 address small)
        (change_exact B s.taken (walk B s.taken) number r f p held found place vs (length_4 address ∙ sym four))

    abbrev Rightly : Asked Edit → Type 0
    Rightly a = RefusedRightly s number r p.at address (edit_answer number a)

    -- an allowed address is refused exactly where 256 edits stand
    allowed_rightly : (e : Edit) → p.allowed address ≡ true → Rightly (with_room s e)
    allowed_rightly e good =
        cond_both (ltb (length s.edits) 256) (Ok e) (Err 20) Rightly
        (λ few.
        let room = ltb-true (length s.edits) 256 few in
        let lawful = lawful_change.1 good in
        (λ bad. absurd (cc bad), λ why. absurd (⊎_elim (λ many. omega (arith, many, room)) (λ unlawful. unlawful lawful) why)))
        (λ full. (λ bad. inl (ltb-false (length s.edits) 256 full), λ why. refl))

    -- any other always is
    refused_rightly : RefusedRightly s number r p.at address (edit_answer number (address_edit s number f address))
    refused_rightly =
        let e : Edit = record { block = number; field = f; place = p.at; laid = Four (to_le_bytes w32 address) } in
        rw (placed)
        (cond_both (p.allowed address) (with_room s e) (Err 14) Rightly (allowed_rightly e)
        (λ wrong. (λ bad. inr (λ lawful. absurd (cc (sym wrong ∙ lawful_change.0 lawful))), λ why. refl)))

-- a block with a scene head has a parent's address
parent_field : (flags : ℕ) (before : List Record) (B : List ℕ) (r : Record) → has_head r.namespace r.kind ≡ true
    → field_place flags before B r Parent ≡ Ok (address_place (lawful_address target.Parent before) (body_at r.place))
parent_field flags before B r head = rw (head) refl

-- and one that has a place for a material has an address there
material_field : (flags : ℕ) (before : List Record) (B : List ℕ) (r : Record) (position place : ℕ)
    → material_place B r position ≡ Some place
    → field_place flags before B r (Material position) ≡ Ok (address_place (lawful_address target.Material before) place)
material_field flags before B r position place is =
    let lawful = lawful_address target.Material before in
    let by_place : Option ℕ → Result Place ℕ = λ o. result_map_both (address_place lawful) (λ c. c) (ok_or o 21) in
    ap (λ b. cond b (by_place (material_place B r position)) (Err 19)) (of_mesh B r position place is) ∙ ap by_place is

-- all of it, of a session whose taken blocks were read
pub promised : (s : State) (w : Walk) → read_blocks (bytes_of s) s.taken ≡ Ok w → (s.opened ≡ true → 12 ≤ length (bytes_of s))
    → (s.opened ≡ false → (s.taken ≡ 0) × (s.edits ≡ [])) → s.taken ≤ 512 → length s.edits ≤ 256 → Promise s
promised s w is long before few_blocks few_edits =
    let B = bytes_of s in
    let held = is ∙ ap Ok (read_walked B s.taken w is) in
    let earlier : ℕ → List Record = λ number. take number (records_of s) in
    record {
      bytes = λ at. latest_wins s.source s.edits at;
      blocks = one s held;
      told = told_of_one s held;
      next = λ opened. next_taken s held (long opened) opened;
      reparent = λ number address r is-taken small head.
          refused_rightly s held is-taken.0 number address small r is-taken.1 Parent
          (address_place (lawful_address target.Parent (earlier number)) (body_at r.place))
          (parent_field (flags_of B) (earlier number) B r head) refl;
      dress = λ number position address place r is-taken small there.
          refused_rightly s held is-taken.0 number address small r is-taken.1 (Material position)
          (address_place (lawful_address target.Material (earlier number)) place)
          (material_field (flags_of B) (earlier number) B r position place there) refl;
      before = before;
      few_blocks = few_blocks;
      few_edits = few_edits;
    }
