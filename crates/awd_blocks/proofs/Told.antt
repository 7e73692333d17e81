-- What a block tells of its parent and its name is where its body's shape has them.
use Rattle.std.proofs.Common.{◌≡◌, ℕ, zero, suc, ◌+◌, ◌*◌, true, false, eqb, List, length, Some, Ok, Err, Result, sym, refl, ap, ◌∙◌, arith}
use Rattle.std.proofs.lemmas.Bool.{cond_both, eqb-true}
use Rattle.awd_source.specs.Bytes.{le, part}
use Rattle.awd_fault.specs.declared.Cause.TheVariants.{BytesLeftOver}
use Rattle.awd_block_fault.specs.declared.BlockFault.{BlockFault}
use Rattle.awd_block_fault.specs.declared.BlockFault.TheVariants.{Header, Field}
use Rattle.awd_block_fault.specs.Faults.{fault, on}
use Rattle.awd_block_fault.proofs.Passed.{on-ok, unturned, allowed-ok}
use Rattle.awd_source.specs.Fields.{bytes_at, number_at}
use Rattle.awd_source.proofs.Parts.{bytes-read, number-read}
use Rattle.awd_format.specs.Shapes.{Shape, read_of, text, bytes}
use Rattle.awd_header.specs.Widths.{Sizes, widths_of}
use Rattle.awd_roster.specs.declared.record.Record.{Record}
use Rattle.awd_roster.specs.declared.record.Target.{Target}
use Rattle.awd_roster.specs.Addresses.{lawful_address}
use Rattle.awd_roster.specs.Sequence.{in_sequence}
use Rattle.awd_roster.specs.declared.record.Target.TheVariants.{Parent}
use Rattle.awd_bodies.specs.Fields.{address_to, numbers, matrix}
use Rattle.awd_bodies.specs.Scene.{scene_head, container, mesh, light, picker}
use Rattle.awd_bodies.specs.Groups.{geometry}
use Rattle.awd_bodies.specs.Skeletons.{skeleton}
use Rattle.awd_blocks.specs.Heads.{namespace_at, kind_at, flags_at, size_at, body_at, uncompressed, block_header}
use Rattle.awd_blocks.specs.Blocks.{kind_body, body_of, body_shape, in_header, filled_to, block_at}
use Rattle.awd_blocks.specs.Records.{has_head, begins_named, matrix_width, text_bytes, record_at}
use Rattle.awd_blocks.specs.Told.{HeadTold, NameTold}
use Rattle.awd_blocks.proofs.Names.{at-number}

module _ (B : List ℕ) (end : ℕ) where
  -- where what was read ends
  bytes-end : (at n q : ℕ) → read_of (bytes n) B at end ≡ Ok q → q ≡ at + n
  bytes-end at n q is = (bytes-read at end n q (unturned Field (bytes_at at end n) q is)).1

  pub address_end : (target : Target) (before : List Record) (at q : ℕ) → read_of (address_to target before) B at end ≡ Ok q → q ≡ at + 4
  address_end target before at q is =
      let (v, is-v, rest) = on-ok Field (number_at B at end 4) _ q is in
      omega (arith, bytes-end (at + 4) 0 q (allowed-ok (lawful_address target before v) _ _ q rest).1)

  pub numbers_end : (n width at q : ℕ) → read_of (numbers n width) B at end ≡ Ok q → q ≡ at + n * width
  unfolding numbers
  numbers_end zero width at q is = omega (arith, bytes-end at 0 q is)
  numbers_end (suc n) width at q is =
      let (v, is-v, rest) = on-ok Field (number_at B at end width) _ q is in
      omega (arith, numbers_end n width (at + width) q rest)

  text-end : (at q : ℕ) → read_of text B at end ≡ Ok q → q ≡ at + 2 + le (part B at 2)
  text-end at q is =
      let (v, is-v, rest) = on-ok Field (number_at B at end 2) _ q is in
      omega (arith, bytes-end (at + 2) v q rest, number-read B at end 2 v is-v)

  -- what is read behind a first part was read
  first-read : (L : Shape) (next : ℕ → Result ℕ BlockFault) (at q : ℕ) → on (λ x. x) (read_of L B at end) next ≡ Ok q → (x : ℕ) × (read_of L B at end ≡ Ok x)
  first-read L next at q is =
      let (x, is-x, rest) = on-ok (λ x. x) (read_of L B at end) next q is in
      (x, is-x)

  -- a body that was read begins with a scene head, or with a name, as its kind says
  abbrev Begins : (before : List Record) (w : Sizes) (body namespace kind : ℕ) → Shape → Type 0
  Begins before w body namespace kind L =
      (q : ℕ) → read_of L B body end ≡ Ok q
      → (has_head namespace kind ≡ true → (x : ℕ) × (read_of (scene_head before w.matrix) B body end ≡ Ok x))
      × (begins_named namespace kind ≡ true → (has_head namespace kind ≡ false) × ((x : ℕ) × (read_of text B body end ≡ Ok x)))

  kind-begins : (before : List Record) (w : Sizes) (body kind size : ℕ) → Begins before w body 0 kind (kind_body before w kind size)
  unfolding kind_body
  kind-begins before w body kind size =
      let P = Begins before w body 0 in
      cond_both (eqb kind 22) _ _ (P kind) (λ is. at-number (λ k. P k (container before w.matrix)) kind 22 is (λ q r. (λ _. first-read (scene_head before w.matrix) _ body q r, λ no. absurd (cc no)))) (λ n1.
      cond_both (eqb kind 23) _ _ (P kind) (λ is. at-number (λ k. P k (mesh before w.matrix)) kind 23 is (λ q r. (λ _. first-read (scene_head before w.matrix) _ body q r, λ no. absurd (cc no)))) (λ n2.
      cond_both (eqb kind 41) _ _ (P kind) (λ is. at-number (λ k. P k (light before w.matrix)) kind 41 is (λ q r. (λ _. first-read (scene_head before w.matrix) _ body q r, λ no. absurd (cc no)))) (λ n3.
      cond_both (eqb kind 51) _ _ (P kind) (λ is. at-number (λ k. P k (picker before)) kind 51 is (λ q r. (λ no. absurd (cc no), λ _. (refl, first-read text _ body q r)))) (λ n4.
      cond_both (eqb kind 1) _ _ (P kind) (λ is. at-number (λ k. P k (geometry w.geometry)) kind 1 is (λ q r. (λ no. absurd (cc no), λ _. (refl, first-read text _ body q r)))) (λ n5.
      cond_both (eqb kind 101) _ _ (P kind) (λ is. at-number (λ k. P k (skeleton w.matrix)) kind 101 is (λ q r. (λ no. absurd (cc no), λ _. (refl, first-read text _ body q r)))) (λ n6 q r.
      (λ head. absurd (cc (rw (n1, n2, n3) at head)), λ named. absurd (cc (rw (n4, n5, n6) at named)))))))))

  body-begins : (before : List Record) (w : Sizes) (body namespace kind size : ℕ) → Begins before w body namespace kind (body_of before w namespace kind size)
  unfolding body_of
  body-begins before w body namespace kind size =
      cond_both (eqb namespace 0) _ _ (Begins before w body namespace kind)
      (λ is. at-number (λ n. Begins before w body n kind (kind_body before w kind size)) namespace 0 is (kind-begins before w body kind size))
      (λ other q r. (λ head. absurd (cc (rw (other) at head)), λ named. absurd (cc (rw (other) at named))))

  -- the parts of a scene head, and a record that tells them
  head-told : (before : List Record) (width body x : ℕ) (r : Record) → read_of (scene_head before width) B body end ≡ Ok x
      → r.parent ≡ Some (le (part B body 4)) → r.name ≡ Some (text_bytes B (body + 4 + 12 * width)) → HeadTold before width B body end r
  head-told before width body x r is parent name =
      let (p, is-p, rest) = on-ok (λ x. x) (read_of (address_to Parent before) B body end) _ x is in
      let (q, is-q, is-x) = on-ok (λ x. x) (read_of (matrix width) B p end) _ x rest in
      let at-p = address_end Parent before body p is-p in
      let at-q : q ≡ body + 4 + 12 * width = omega (arith, at-p, numbers_end 12 width p q is-q) in
      record { matrix_place = p; name_place = q; behind = x; address = is-p; cells = is-q; name = is-x; parent_told = parent; name_told = name ∙ ap (λ k. Some (text_bytes B k)) (sym at-q); name_whole = text-end q x is-x }

  name-told : (body x : ℕ) (r : Record) → read_of text B body end ≡ Ok x → r.name ≡ Some (text_bytes B body) → NameTold B body end r
  name-told body x r is name = record { behind = x; name = is; name_told = name; name_whole = text-end body x is }

  pub header-end : (before : List Record) (at q : ℕ) → read_of (block_header before) B at end ≡ Ok q → q ≡ at + 11
  header-end before at q is =
      let (id, is-id, a) = on-ok Field (number_at B at end 4) _ q is in
      let (namespace, is-namespace, b) = on-ok Field (number_at B (at + 4) end 1) _ q (allowed-ok (in_sequence before id) _ _ q a).1 in
      let (kind, is-kind, c) = on-ok Field (number_at B (at + 4 + 1) end 1) _ q b in
      let (flags, is-flags, d) = on-ok Field (number_at B (at + 4 + 1 + 1) end 1) _ q c in
      let (size, is-size, e) = on-ok Field (number_at B (at + 4 + 1 + 1 + 1) end 4) _ q (allowed-ok (uncompressed flags) _ _ q d).1 in
      omega (arith, bytes-end (at + 4 + 1 + 1 + 1 + 4) 0 q e)

pub filled-is : (stop e q : ℕ) → filled_to stop e ≡ Ok q → (e ≡ stop) × (e ≡ q)
filled-is stop e q =
    cond_both (eqb e stop) (Ok e) (Err (Header (fault BytesLeftOver e))) (λ r. r ≡ Ok q → (e ≡ stop) × (e ≡ q)) (λ same is. (eqb-true e stop same, cc is)) (λ other is. absurd (cc is))

-- the same reading, by other names of its places
moved : (L : Shape) (B : List ℕ) (p at stop q e : ℕ) → p ≡ at → stop ≡ e → q ≡ e → read_of L B p stop ≡ Ok q → read_of L B at e ≡ Ok e
moved L B p at stop q e a b c is = ap (λ x. read_of L B x e) (sym a) ∙ ap (λ x. read_of L B p x) (sym b) ∙ is ∙ ap Ok c

-- of a block that was read: what it tells is where its body's shape has it
module _ (flags : ℕ) (before : List Record) (B : List ℕ) (at e : ℕ) (is : block_at flags before B at ≡ Ok e) where
  abbrev L : Shape
  L = body_shape flags before B at

  pub body_read : read_of L B (body_at at) e ≡ Ok e
  body_read =
      let (body, head, fits) = on-ok in_header (read_of (block_header before) B at (length B)) _ e is in
      let (stop, room, rest) = on-ok Header (bytes_at body (length B) (size_at B at)) _ e fits in
      let (q, whole, filled) = on-ok (λ x. x) (read_of L B body stop) _ e rest in
      let (at-stop, at-e) = filled-is stop q e filled in
      let stop-is : stop ≡ e = sym at-stop ∙ at-e in
      moved L B body (body_at at) stop q e (header-end B (length B) before at body head) stop-is at-e whole

  pub head_told : has_head (namespace_at B at) (kind_at B at) ≡ true → HeadTold before (matrix_width flags B at) B (body_at at) e (record_at flags B at)
  head_told has =
      let (x, is-x) = (body-begins B e before (widths_of flags (flags_at B at)) (body_at at) (namespace_at B at) (kind_at B at) (size_at B at) e body_read).0 has in
      head-told B e before (matrix_width flags B at) (body_at at) x (record_at flags B at) is-x (rw (has) refl) (rw (has) refl)

  pub name_told : begins_named (namespace_at B at) (kind_at B at) ≡ true → NameTold B (body_at at) e (record_at flags B at)
  name_told named =
      let (headless, named-read) = (body-begins B e before (widths_of flags (flags_at B at)) (body_at at) (namespace_at B at) (kind_at B at) (size_at B at) e body_read).1 named in
      let (x, is-x) = named-read in
      name-told B e (body_at at) x (record_at flags B at) is-x (rw (headless, named) refl)
