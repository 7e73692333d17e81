-- Where a field is that may be edited: it is a free number in the body of its block.
use Rattle.std.proofs.Common.{◌≡◌, ◌⊎◌, inl, inr, ℕ, zero, suc, ◌+◌, ◌*◌, ◌<◌, ◌≤◌, Bool, true, eqb, ltb, cond, ◌&&◌, List, Some, None, Option, Ok, sym, refl, ap, ◌∙◌, subst, arith}
use Rattle.std.specs.Option.{option_map, ok_or, option_and_then}
use Rattle.std.specs.Result.{result_map_both}
use Rattle.std.proofs.lemmas.Bool.{and_parts, cond_both, ltb-true}
use Rattle.std.proofs.Math.Nat.{mul-le-mul_right}
use Rattle.awd_source.specs.Bytes.{le, part}
use Rattle.awd_fault.specs.declared.Cause.TheVariants.{ValueNotAllowed}
use Rattle.awd_block_fault.specs.declared.BlockFault.TheVariants.{Entry}
use Rattle.awd_block_fault.specs.Faults.{in_entry, field_of}
use Rattle.awd_format.specs.Runs.{counted_at}
use Rattle.awd_format.specs.Shapes.{Shape, counted, also, read_of, entry_of, any}
use Rattle.awd_header.specs.Widths.{Sizes, widths_of}
use Rattle.awd_roster.specs.declared.record.Record.{Record}
use Rattle.awd_roster.specs.declared.record.Target.{Target}
use Rattle.awd_roster.specs.declared.record.Target.TheVariants as target
use Rattle.awd_roster.specs.Addresses.{lawful_address}
use Rattle.awd_bodies.specs.Fields.{address_to, addresses, numbers, lists}
use Rattle.awd_bodies.specs.Scene.{scene_head, container, mesh, light}
use Rattle.awd_blocks.specs.Heads.{namespace_at, kind_at, flags_at, size_at, body_at}
use Rattle.awd_blocks.specs.Blocks.{kind_body, body_of, body_shape, block_at}
use Rattle.awd_blocks.specs.Records.{has_head, matrix_width, record_at}
use Rattle.awd_blocks.proofs.Names.{at-number}
use Rattle.awd_block_fault.proofs.Passed.{on-ok, on-at, unturned, allowed-ok}
use Rattle.std.proofs.lemmas.Option.{cond_some}
use Rattle.awd_blocks.proofs.Told.{address_end, head_told}
use Rattle.awd_contents.specs.Contents.{is_mesh, materials_at, material_place, cell_place}
use Rattle.awd_contents.proofs.Placed.{as_mesh, materials}
use Rattle.awd_edits.specs.declared.edit.Field.{Field}
use Rattle.awd_edits.specs.declared.edit.Field.TheVariants.{Parent, Material, Cell}
use Rattle.awd_changes.specs.Fields.{Place, address_place, cell_of_width, field_place}
use Rattle.awd_changes.proofs.Shapes.{FreeIn, Free, number_read}

-- a body begins with a scene head where its kind says so
abbrev Headed : List Record → Sizes → ℕ → ℕ → Shape → Type 0
Headed before w namespace kind L = has_head namespace kind ≡ true → (rest : Shape) × (L ≡ also (scene_head before w.matrix) rest)

kind_headed : (before : List Record) (w : Sizes) (kind size : ℕ) → Headed before w 0 kind (kind_body before w kind size)
unfolding kind_body
kind_headed before w kind size =
    let P = Headed before w 0 in
    cond_both (eqb kind 22) _ _ (P kind) (λ is. at-number (λ k. P k (container before w.matrix)) kind 22 is (λ _. (lists, refl))) (λ n1.
    cond_both (eqb kind 23) _ _ (P kind) (λ is. at-number (λ k. P k (mesh before w.matrix)) kind 23 is (λ _. (_, refl))) (λ n2.
    cond_both (eqb kind 41) _ _ (P kind) (λ is. at-number (λ k. P k (light before w.matrix)) kind 41 is (λ _. (_, refl))) (λ n3 head.
    absurd (cc (rw (n1, n2, n3) at head)))))

body_headed : (before : List Record) (w : Sizes) (namespace kind size : ℕ) → Headed before w namespace kind (body_of before w namespace kind size)
unfolding body_of
body_headed before w namespace kind size =
    cond_both (eqb namespace 0) _ _ (Headed before w namespace kind)
    (λ is. at-number (λ n. Headed before w n kind (kind_body before w kind size)) namespace 0 is (kind_headed before w kind size))
    (λ other head. absurd (cc (rw (other) at head)))

-- any cell of a row of numbers is free
cells_free : (B : List ℕ) (end n k width at q : ℕ) → k < n → q ≡ at + k * width → Free (numbers n width) B at end q width (λ v. true)
unfolding numbers
cells_free B end zero k width at q low place = absurd (omega arith)
cells_free B end (suc n) zero width at q low place = inl (omega arith, refl, λ v. refl, λ u v. refl)
cells_free B end (suc n) (suc k) width at q low place = inr (cells_free B end n k width (at + width) q (omega arith) (omega arith))

-- an address is free
address_free : (target : Target) (before : List Record) (B : List ℕ) (at end q : ℕ) → q ≡ at
    → Free (address_to target before) B at end q 4 (lawful_address target before)
address_free target before B at end q place = inl (place, refl, λ v. refl, λ u v. refl)

module _ (target : Target) (before : List Record) (B : List ℕ) (end q : ℕ) where
  abbrev one : Shape
  one = address_to target before

  -- any address of a run that was read is free
  addresses_free : (n j at e i : ℕ) → counted_at (λ i. entry_of one) B end n j at ≡ Ok e → i < n → q ≡ at + 4 * i
      → FreeIn (λ i p. Free one B p end q 4 (lawful_address target before)) (λ i. entry_of one) B end n j at
  addresses_free zero j at e i is low place = absurd (omega arith)
  addresses_free (suc n) j at e zero is low place = inl (address_free target before B at end q (omega arith))
  addresses_free (suc n) j at e (suc i) is low place =
      let (m, first, rest) = on-ok (in_entry j) (entry_of one B at end) (λ m. counted_at (λ i. entry_of one) B end n (j + 1) m) e is in
      let at-m = address_end B end target before at m (unturned field_of (read_of one B at end) m first) in
      inr (m, first, addresses_free n (j + 1) m e i rest (omega arith) (omega arith))

-- a place that there is was made of a place
mapped_ok : (f : ℕ → Place) (o : Option ℕ) (x : ℕ) (fp : Place) → result_map_both f (λ c. c) (ok_or o x) ≡ Ok fp
    → (at : ℕ) × (o ≡ Some at) × (f at ≡ fp)
mapped_ok f (Some at) x fp is = (at, refl, cc is)
mapped_ok f None x fp is = absurd (cc is)

-- where the name is of a block that has a scene head
abbrev pub name_after : ℕ → ℕ → ℕ
name_after width body = body + 4 + 12 * width

-- a field lies behind the parent's address (4), which is first in the body, unless it is that
abbrev pub ParentPlace : Field → ℕ → Place → Type 0
ParentPlace Parent body fp = (fp.at ≡ body) × (fp.size ≡ 4)
ParentPlace (Material i) body fp = body + 4 ≤ fp.at
ParentPlace (Cell k) body fp = body + 4 ≤ fp.at

-- and apart from the length (2) of the name
abbrev pub NamePlace : ℕ → Place → Type 0
NamePlace name fp = (name + 2 ≤ fp.at) ⊎ (fp.at + fp.size ≤ name)

-- and apart from the count (2) of materials
abbrev pub CountPlace : Option ℕ → Place → Type 0
CountPlace o fp = (q : ℕ) → o ≡ Some q → (q + 2 ≤ fp.at) ⊎ (fp.at + fp.size ≤ q)

-- just where each field is: by where the body begins, how wide its cells are, and where the count of materials is
abbrev pub Exactly : Field → ℕ → ℕ → Option ℕ → Place → Type 0
Exactly Parent body width o fp = (fp.at ≡ body) × (fp.size ≡ 4)
Exactly (Material i) body width o fp = (q : ℕ) × (o ≡ Some q) × (fp.at ≡ q + 2 + 4 * i) × (fp.size ≡ 4)
Exactly (Cell k) body width o fp = (k < 12) × (fp.at ≡ body + 4 + k * width) × (fp.size ≡ width)

-- what is so of a block that has such a field: it has a scene head, and the field is a free number in its body
pub record FieldPlaced (flags : ℕ) (before : List Record) (B : List ℕ) (p e : ℕ) (f : Field) (fp : Place) : Type 0 where
  pub headed : has_head (namespace_at B p) (kind_at B p) ≡ true
  pub free : Free (body_shape flags before B p) B (body_at p) e fp.at fp.size fp.allowed
  pub parent : ParentPlace f (body_at p) fp
  pub name : NamePlace (name_after (matrix_width flags B p) (body_at p)) fp
  pub count : CountPlace (materials_at (record_at flags B p)) fp
  pub exactly : Exactly f (body_at p) (matrix_width flags B p) (materials_at (record_at flags B p)) fp

-- the count of its materials lies behind the length of its name
behind_name : (flags : ℕ) (B : List ℕ) (p q : ℕ) → is_mesh (record_at flags B p) ≡ true → has_head (namespace_at B p) (kind_at B p) ≡ true
    → materials_at (record_at flags B p) ≡ Some q → name_after (matrix_width flags B p) (body_at p) + 2 ≤ q
behind_name flags B p q mesh-is has is =
    let name = name_after (matrix_width flags B p) (body_at p) in
    let at-q : name + 2 + le (part B name 2) + 4 ≡ q = cc (rw (mesh-is, has) at is) in
    omega arith

-- what has a count of materials is a mesh instance
counted_mesh : (r : Record) (q : ℕ) → materials_at r ≡ Some q → is_mesh r ≡ true
counted_mesh r q =
    cond_both (is_mesh r) (option_map (λ s. s.place + s.length + 4) r.name) None (λ o. o ≡ Some q → is_mesh r ≡ true)
    (λ mesh is. mesh)
    (λ other is. absurd (cc is))

-- of a mesh instance that was read, and where the count of its materials is
module _ (before : List Record) (width : ℕ) (B : List ℕ) (body e q : ℕ) (whole : read_of (mesh before width) B body e ≡ Ok e)
    (is : read_of (also (scene_head before width) (address_to target.Geometry before)) B body e ≡ Ok q) where
  abbrev material : Shape
  material = address_to target.Material before

  -- what is before the count was read, the count fits, and so was the run behind it
  materials_read : (x : ℕ) × (read_of (scene_head before width) B body e ≡ Ok x) × (read_of (address_to target.Geometry before) B x e ≡ Ok q)
      × (q + 2 ≤ e) × ((y : ℕ) × (counted_at (λ i. entry_of material) B e (le (part B q 2)) 0 (q + 2) ≡ Ok y))
  materials_read =
      let head = scene_head before width in
      let geometry = address_to target.Geometry before in
      let run = addresses target.Material before in
      let (x, is-x, is-q) = on-ok (λ y. y) (read_of head B body e) (λ m. read_of geometry B m e) q is in
      let behind-head = sym (on-at (λ y. y) (λ m. read_of (also geometry (also run lists)) B m e) (read_of head B body e) x is-x) ∙ whole in
      let behind-geometry = sym (on-at (λ y. y) (λ m. read_of (also run lists) B m e) (read_of geometry B x e) q is-q) ∙ behind-head in
      let (y, is-y, rest) = on-ok (λ y. y) (read_of run B q e) (λ m. read_of lists B m e) e behind-geometry in
      let (fits, any-is, run-is) = number_read 2 any ValueNotAllowed (λ count. counted count (λ i. material)) B q e y is-y in
      (x, is-x, is-q, fits, (y, unturned Entry (counted_at (λ i. entry_of material) B e (le (part B q 2)) 0 (q + 2)) y run-is))

  -- any of its materials is free
  material_free : (i : ℕ) → i < le (part B q 2) → Free (mesh before width) B body e (q + 2 + 4 * i) 4 (lawful_address target.Material before)
  material_free i low =
      let (x, is-x, is-q, fits, (y, run-is)) = materials_read in
      let free = addresses_free target.Material before B e (q + 2 + 4 * i) (le (part B q 2)) 0 (q + 2) y i run-is low refl in
      inr (x, is-x, inr (q, is-q, inl (inr free)))

-- of a block that was read
module _ (flags : ℕ) (before : List Record) (B : List ℕ) (p e : ℕ) (is : block_at flags before B p ≡ Ok e) where
  abbrev width : ℕ
  width = matrix_width flags B p

  abbrev body : ℕ
  body = body_at p

  abbrev shape : Shape
  shape = body_shape flags before B p

  -- a place as the field's is
  placed_as : (f : Field) (fp fq : Place) → fp ≡ fq → FieldPlaced flags before B p e f fp → FieldPlaced flags before B p e f fq
  placed_as f fp fq same w = subst (FieldPlaced flags before B p e f) same w

  -- what is free in a scene head is free in a body that begins with one
  headed_free : has_head (namespace_at B p) (kind_at B p) ≡ true → (q size : ℕ) (ok : ℕ → Bool)
      → Free (scene_head before width) B body e q size ok → Free shape B body e q size ok
  headed_free has q size ok free =
      let (rest, is) = body_headed before (widths_of flags (flags_at B p)) (namespace_at B p) (kind_at B p) (size_at B p) has in
      subst (λ L. Free L B body e q size ok) (sym is) (inl free)

  -- of one that has a count of materials
  module _ (q : ℕ) (counted-at : materials_at (record_at flags B p) ≡ Some q) where
    abbrev mesh-is : is_mesh (record_at flags B p) ≡ true
    mesh-is = counted_mesh (record_at flags B p) q counted-at

    -- it lies behind the name
    pub count_behind : name_after width body + 2 ≤ q
    count_behind = behind_name flags B p q mesh-is (as_mesh flags before B p e is mesh-is).0 counted-at

    -- and inside the body
    pub count_inside : (body ≤ q) × (q + 2 ≤ e)
    count_inside =
        let (has, is-mesh, whole) = as_mesh flags before B p e is mesh-is in
        let (m, is-m, at-m) = materials flags before B p e is mesh-is in
        let same : m ≡ q = cc (sym at-m ∙ counted-at) in
        let (x, is-x, is-q, fits, run) = materials_read before width B body e m whole is-m in
        (omega (arith, count_behind), omega (arith, fits, same))

  parent_placed : (fp : Place) → field_place flags before B (record_at flags B p) Parent ≡ Ok fp → FieldPlaced flags before B p e Parent fp
  parent_placed fp place =
      let lawful = lawful_address target.Parent before in
      let (has, at-fp) = allowed-ok (has_head (namespace_at B p) (kind_at B p)) (Ok (address_place lawful body)) 19 fp place in
      placed_as Parent (address_place lawful body) fp (cc at-fp)
      (record {
        headed = has;
        free = headed_free has body 4 lawful (inl (address_free target.Parent before B body e body refl));
        parent = (refl, refl);
        name = inr (omega arith);
        count = λ q at-q. inr (omega (arith, count_behind q at-q));
        exactly = (refl, refl);
      })

  cell_placed : (k : ℕ) (fp : Place) → field_place flags before B (record_at flags B p) (Cell k) ≡ Ok fp
      → FieldPlaced flags before B p e (Cell k) fp
  cell_placed k fp place =
      let r = record_at flags B p in
      let to_place = cell_of_width width in
      let result = result_map_both to_place (λ c. c) (ok_or (cell_place flags B r k) 22) in
      let (has, mapped) = allowed-ok (has_head (namespace_at B p) (kind_at B p)) result 19 fp place in
      let (q, some, at-fp) = mapped_ok to_place (cell_place flags B r k) 22 fp mapped in
      let (both, at-q) = cond_some (has_head (namespace_at B p) (kind_at B p) && ltb k 12) (body + 4 + k * width) q some in
      let low = ltb-true k 12 (and_parts (has_head (namespace_at B p) (kind_at B p)) (ltb k 12) both).1 in
      let told = head_told flags before B p e is has in
      let at-m = address_end B e target.Parent before body told.matrix_place told.address in
      let last : suc k * width ≤ 12 * width = mul-le-mul_right width low in
      let free = cells_free B e 12 k width told.matrix_place q low (omega arith) in
      placed_as (Cell k) (to_place q) fp at-fp
      (record {
        headed = has;
        free = headed_free has q width (λ n. true) (inr (told.matrix_place, told.address, inl free));
        parent = omega arith;
        name = inr (omega arith);
        count = λ c at-c. inr (omega (arith, last, count_behind c at-c));
        exactly = (low, sym at-q, refl);
      })

  -- where the material at a position is, by where their count is
  material_at : (i q at : ℕ) → materials_at (record_at flags B p) ≡ Some q → material_place B (record_at flags B p) i ≡ Some at
      → (i < le (part B q 2)) × (q + 2 + 4 * i ≡ at)
  material_at i q at counted-at some =
      let here = subst (λ o. option_and_then (λ q. cond (ltb i (le (part B q 2))) (Some (q + 2 + 4 * i)) None) o ≡ Some at) counted-at some in
      let (few, at-is) = cond_some (ltb i (le (part B q 2))) (q + 2 + 4 * i) at here in
      (ltb-true i (le (part B q 2)) few, at-is)

  material_placed : (i : ℕ) (fp : Place) → field_place flags before B (record_at flags B p) (Material i) ≡ Ok fp
      → FieldPlaced flags before B p e (Material i) fp
  material_placed i fp place =
      let r = record_at flags B p in
      let lawful = lawful_address target.Material before in
      let to_place = address_place lawful in
      let (mesh-is, mapped) = allowed-ok (is_mesh r) (result_map_both to_place (λ c. c) (ok_or (material_place B r i) 21)) 19 fp place in
      let (at, some, at-fp) = mapped_ok to_place (material_place B r i) 21 fp mapped in
      let (q, is-q, counted-at) = materials flags before B p e is mesh-is in
      let (few, at-is) = material_at i q at counted-at some in
      let (has, is-mesh, whole) = as_mesh flags before B p e is mesh-is in
      let free = material_free before width B body e q whole is-q i few in
      let low = behind_name flags B p q mesh-is has counted-at in
      placed_as (Material i) (to_place (q + 2 + 4 * i)) fp (ap to_place at-is ∙ at-fp)
      (record {
        headed = has;
        free = subst (λ L. Free L B body e (q + 2 + 4 * i) 4 lawful) (sym is-mesh) free;
        parent = omega arith;
        name = inl (omega arith);
        count = λ c at-c. let same : c ≡ q = cc (sym at-c ∙ counted-at) in inl (omega (arith, same));
        exactly = (q, counted-at, refl, refl);
      })

  -- so of each of the three fields
  pub field_placed : (f : Field) (fp : Place) → field_place flags before B (record_at flags B p) f ≡ Ok fp → FieldPlaced flags before B p e f fp
  field_placed Parent = parent_placed
  field_placed (Material i) = material_placed i
  field_placed (Cell k) = cell_placed k

  -- a field that may be edited is a free number in the body
  pub field_free : (f : Field) (fp : Place) → field_place flags before B (record_at flags B p) f ≡ Ok fp
      → Free shape B body e fp.at fp.size fp.allowed
  field_free f fp place = (field_placed f fp place).free
