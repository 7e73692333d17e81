-- Materials and cells are where their body's shape has them.
use Rattle.std.proofs.Common.{◌≡◌, ℕ, zero, suc, ◌+◌, ◌*◌, ◌<◌, ◌≤◌, true, eqb, List, take, Some, None, Ok, Option, sym, refl, ap, ◌∙◌, subst, arith}
use Rattle.std.specs.Option.{option_map}
use Rattle.std.proofs.lemmas.Bool.{and_parts, lt-ltb, le-leb}
use Rattle.std.proofs.lemmas.List.{drop_min}
use Rattle.awd_source.specs.Bytes.{part}
use Rattle.awd_block_fault.specs.declared.BlockFault.TheVariants.{Field}
use Rattle.awd_source.specs.Fields.{number_at}
use Rattle.awd_format.specs.Shapes.{read_of, also}
use Rattle.awd_header.specs.Widths.{Sizes, widths_of}
use Rattle.awd_roster.specs.declared.record.Record.{Record}
use Rattle.awd_roster.specs.declared.record.Target.TheVariants.{Parent, Geometry}
use Rattle.awd_bodies.specs.Fields.{address_to, numbers, matrix}
use Rattle.awd_bodies.specs.Scene.{scene_head, mesh}
use Rattle.awd_blocks.specs.Heads.{namespace_at, kind_at, flags_at, size_at, body_at}
use Rattle.awd_blocks.specs.Blocks.{kind_body, body_of, body_shape, block_at}
use Rattle.awd_blocks.specs.Records.{has_head, matrix_width, record_at, text_bytes}
use Rattle.awd_blocks.proofs.Names.{at-number}
use Rattle.awd_block_fault.proofs.Passed.{on-ok, on-at}
use Rattle.awd_source.proofs.Parts.{number-read}
use Rattle.awd_blocks.proofs.Told.{address_end, numbers_end, body_read, head_told}
use Rattle.awd_contents.specs.Contents.{cut, is_mesh, materials_at, cell_place}

-- fewer numbers of those that were read were read too
fewer-numbers : (B : List ℕ) (end n k width at q : ℕ) → k ≤ n → at ≤ end → read_of (numbers n width) B at end ≡ Ok q → (x : ℕ) × (read_of (numbers k width) B at end ≡ Ok x)
unfolding numbers
fewer-numbers B end n zero width at q h fits is = (at + 0, rw (le-leb (at + 0) end (omega arith)) refl)
fewer-numbers B end zero (suc k) width at q h fits is = absurd (omega arith)
fewer-numbers B end (suc n) (suc k) width at q h fits is =
    let (v, is-v, rest) = on-ok Field (number_at B at end width) _ q is in
    let (x, less) = fewer-numbers B end n k width (at + width) q (omega arith) (number-read B at end width v is-v).0 rest in
    (x, on-at Field _ (number_at B at end width) v is-v ∙ less)

-- the body of a block of a mesh instance's namespace and kind is one
body_mesh : (before : List Record) (w : Sizes) (namespace kind size : ℕ) → eqb namespace 0 ≡ true → eqb kind 23 ≡ true
    → body_of before w namespace kind size ≡ mesh before w.matrix
unfolding body_of kind_body
body_mesh before w namespace kind size namespace-0 kind-23 =
    at-number (λ n. body_of before w n kind size ≡ mesh before w.matrix) namespace 0 namespace-0
    (at-number (λ k. body_of before w 0 k size ≡ mesh before w.matrix) kind 23 kind-23 refl)

-- and it has a scene head
mesh_headed : (namespace kind : ℕ) → eqb namespace 0 ≡ true → eqb kind 23 ≡ true → has_head namespace kind ≡ true
mesh_headed namespace kind namespace-0 kind-23 =
    at-number (λ n. has_head n kind ≡ true) namespace 0 namespace-0 (at-number (λ k. has_head 0 k ≡ true) kind 23 kind-23 refl)

-- of a block that was read
module _ (flags : ℕ) (before : List Record) (B : List ℕ) (at e : ℕ) (is : block_at flags before B at ≡ Ok e) where
  abbrev width : ℕ
  width = matrix_width flags B at

  pub cells : has_head (namespace_at B at) (kind_at B at) ≡ true → (k : ℕ) → k < 12
      → (q : ℕ) × (read_of (also (address_to Parent before) (numbers k width)) B (body_at at) e ≡ Ok q) × (cell_place flags B (record_at flags B at) k ≡ Some q)
  cells has k low =
      let told = head_told flags before B at e is has in
      let (v, is-v, rest) = on-ok Field (number_at B (body_at at) e 4) _ told.matrix_place told.address in
      let at-p = address_end B e Parent before (body_at at) told.matrix_place told.address in
      let (x, is-x) = fewer-numbers B e 12 k width told.matrix_place told.name_place (omega arith) (omega (arith, at-p, number-read B (body_at at) e 4 v is-v)) told.cells in
      let at-x : body_at at + 4 + k * width ≡ x = omega (arith, at-p, numbers_end B e k width told.matrix_place x is-x) in
      (x, on-at (λ y. y) _ (read_of (address_to Parent before) B (body_at at) e) told.matrix_place told.address ∙ is-x, rw (has, lt-ltb k 12 low) (ap Some at-x))

  -- a mesh instance has a scene head, and its body is read as one
  pub as_mesh : is_mesh (record_at flags B at) ≡ true
      → (has_head (namespace_at B at) (kind_at B at) ≡ true) × (body_shape flags before B at ≡ mesh before width)
      × (read_of (mesh before width) B (body_at at) e ≡ Ok e)
  as_mesh mesh-is =
      let (namespace-0, kind-23) = and_parts (eqb (namespace_at B at) 0) (eqb (kind_at B at) 23) mesh-is in
      let shape = body_mesh before (widths_of flags (flags_at B at)) (namespace_at B at) (kind_at B at) (size_at B at) namespace-0 kind-23 in
      (mesh_headed (namespace_at B at) (kind_at B at) namespace-0 kind-23, shape, subst (λ L. read_of L B (body_at at) e ≡ Ok e) shape (body_read flags before B at e is))

  pub materials : is_mesh (record_at flags B at) ≡ true
      → (q : ℕ) × (read_of (also (scene_head before width) (address_to Geometry before)) B (body_at at) e ≡ Ok q) × (materials_at (record_at flags B at) ≡ Some q)
  materials mesh-is =
      let (has, shape, whole) = as_mesh mesh-is in
      let told = head_told flags before B at e is has in
      let (x, is-x, rest) = on-ok (λ y. y) (read_of (scene_head before width) B (body_at at) e) _ e whole in
      let (g, is-g, _) = on-ok (λ y. y) (read_of (address_to Geometry before) B x e) _ e rest in
      let scene = on-at (λ y. y) _ (read_of (address_to Parent before) B (body_at at) e) told.matrix_place told.address ∙ (on-at (λ y. y) _ (read_of (matrix width) B told.matrix_place e) told.name_place told.cells ∙ told.name) in
      let x-is : x ≡ told.behind = cc (sym is-x ∙ scene) in
      let at-g = address_end B e Geometry before x g is-g in
      let place : (text_bytes B told.name_place).place + (text_bytes B told.name_place).length + 4 ≡ g = omega (arith, at-g, x-is, told.name_whole) in
      (g, on-at (λ y. y) _ (read_of (scene_head before width) B (body_at at) e) x is-x ∙ is-g, rw (mesh-is, told.name_told) (ap Some place))

-- what stands at a place, cut where the bytes end: the same, since nothing stands further on
pub standing_at : {A : Type 0} (B : List ℕ) (f : List ℕ → A) (n : ℕ) (o : Option ℕ) (q : ℕ) → option_map (cut B) o ≡ Some q → option_map (λ p. f (part B p n)) o ≡ Some (f (part B q n))
standing_at B f n None q is = absurd (cc is)
standing_at B f n (Some p) q is =
    let at : cut B p ≡ q = cc is in
    ap (λ bytes. Some (f (take n bytes))) (sym (drop_min p B)) ∙ ap (λ x. Some (f (part B x n))) at
