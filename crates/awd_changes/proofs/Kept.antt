-- Where bytes are the same, what was read there is read again: of shapes, of headers, and of blocks.
use Rattle.std.proofs.Common.{◌≡◌, ℕ, ◌+◌, ◌*◌, ◌<◌, ◌≤◌, Bool, true, false, cond, List, length, get_or, IfSome, Some, None, Ok, Option, sym, refl, ap, ◌∙◌, subst, arith}
use Rattle.std.proofs.lemmas.Bool.{eq-eqb, le-leb}
use Rattle.std.specs.Option.{option_map}
use Rattle.awd_source.specs.Bytes.{le, part}
use Rattle.awd_block_fault.specs.declared.BlockFault.TheVariants.{Header}
use Rattle.awd_block_fault.proofs.Passed.{on-ok}
use Rattle.awd_source.specs.Fields.{bytes_at}
use Rattle.awd_source.proofs.Parts.{bytes-read}
use Rattle.awd_format.specs.Sets.{Stands, Reads}
use Rattle.awd_format.specs.Shapes.{Shape, SetOf, read_of, Filled}
use Rattle.awd_format.proofs.RunLaws.{reads-member}
use Rattle.awd_format.proofs.ShapeLaws.{shape_free, shape-reads}
use Rattle.awd_format.proofs.Locality.{Alike, inner, part-alike}
use Rattle.awd_header.specs.Widths.{widths_of}
use Rattle.awd_roster.specs.declared.record.Record.{Record}
use Rattle.awd_roster.specs.Table.{but_parents}
use Rattle.awd_blocks.specs.Heads.{id_at, namespace_at, kind_at, flags_at, size_at, body_at, block_header}
use Rattle.awd_blocks.specs.Blocks.{body_shape, in_header, block_at}
use Rattle.awd_blocks.specs.Records.{has_head, begins_named, matrix_width, name_in, text_bytes, record_at}
use Rattle.awd_blocks.proofs.Bodies.{header-filled}
use Rattle.awd_blocks.proofs.Whole.{shape-filled}
use Rattle.awd_blocks.proofs.Names.{name_inside}
use Rattle.awd_blocks.proofs.Told.{header-end, filled-is, body_read}
use Rattle.awd_edits.proofs.Latest.{where_true}
use Rattle.awd_changes.proofs.Kin.{header_kin, shape_kin}

-- what stands in some bytes stands in others that are the same there
stands_kept : (B C : List ℕ) (at end : ℕ) (m : List ℕ) → end ≤ length B → end ≤ length C → Alike B C at (at + length m)
    → Stands B at end m → Stands C at end m
stands_kept B C at end m b c same s =
    record { fits = s.fits; is = sym (part-alike B C at (length m) (omega (arith, s.fits)) (omega (arith, s.fits)) same) ∙ s.is }

-- what a shape reads depends only on the bytes that it reads: where they are the same, so is the place behind them
pub shape_kept : (L : Shape) → Filled L → (B C : List ℕ) (at end m : ℕ) → at ≤ end → end ≤ length B → end ≤ length C → read_of L B at end ≡ Ok m
    → ((i : ℕ) → at ≤ i → i < m → get_or B i 0 ≡ get_or C i 0) → read_of L C at end ≡ Ok m
shape_kept L filled B C at end m h b c is same =
    let (bs, place, p, s) = subst (Reads (SetOf L) B at end) is (shape-reads L filled B at end h b) in
    let s' = stands_kept B C at end bs b c (λ i l k. same i l (omega (arith, place))) s in
    reads-member C at end (SetOf L) (shape_free L) (read_of L C at end) (shape-reads L filled C at end h c) bs p s' ∙ ap Ok (sym place)

-- a block that is read at a place: its header is, its body fits, and that is read to its end
pub record Parts (flags : ℕ) (before : List Record) (B : List ℕ) (at : ℕ) : Type 0 where
  pub header : read_of (block_header before) B at (length B) ≡ Ok (body_at at)
  pub fits : body_at at + size_at B at ≤ length B
  pub body : read_of (body_shape flags before B at) B (body_at at) (body_at at + size_at B at) ≡ Ok (body_at at + size_at B at)

module _ (flags : ℕ) (before : List Record) (B : List ℕ) (at : ℕ) where
  -- where its parts are read, a block is
  pub by_body : read_of (block_header before) B at (length B) ≡ Ok (body_at at) → body_at at + size_at B at ≤ length B
      → read_of (body_shape flags before B at) B (body_at at) (body_at at + size_at B at) ≡ Ok (body_at at + size_at B at)
      → block_at flags before B at ≡ Ok (body_at at + size_at B at)
  by_body header fits body =
      let end = body_at at + size_at B at in
      rw (header, le-leb end (length B) fits, body, eq-eqb end end refl) refl

  -- and where a block is read, its parts are, and it ends where its body does
  pub block_parts : (e : ℕ) → block_at flags before B at ≡ Ok e → Parts flags before B at × (e ≡ body_at at + size_at B at)
  block_parts e is =
      let (body, head, rest) = on-ok in_header (read_of (block_header before) B at (length B)) _ e is in
      let (stop, room, filled) = on-ok Header (bytes_at body (length B) (size_at B at)) _ e rest in
      let place = header-end B (length B) before at body head in
      let (fits, to) = bytes-read body (length B) (size_at B at) stop room in
      let (q, whole, ends) = on-ok (λ x. x) (read_of (body_shape flags before B at) B body stop) _ e filled in
      let (to-stop, to-e) = filled-is stop q e ends in
      let e-is : e ≡ body_at at + size_at B at = omega (arith, to, place, to-stop, to-e) in
      let read = subst (λ n. read_of (body_shape flags before B at) B (body_at at) n ≡ Ok n) e-is (body_read flags before B at e is) in
      (record { header = head ∙ ap Ok place; fits = omega (arith, fits, place); body = read }, e-is)

-- the block whose header is at a place has a scene head; and where its name is
abbrev pub headed : List ℕ → ℕ → Bool
headed B at = has_head (namespace_at B at) (kind_at B at)

abbrev pub name_place : ℕ → List ℕ → ℕ → Option ℕ
name_place flags B at = name_in (namespace_at B at) (kind_at B at) (matrix_width flags B at) (body_at at)

-- where a name is, by whether there is a scene head, or else a name in front
abbrev named : Bool → Bool → ℕ → ℕ → Option ℕ
named head front width body = cond head (Some (body + 4 + 12 * width)) (cond front (Some body) None)

-- it is in the body
named-from : (head front : Bool) (width body : ℕ) (Q : ℕ → Type 0) → ((q : ℕ) → body ≤ q → Q q) → IfSome (named head front width body) Q
named-from true front width body Q all = all (body + 4 + 12 * width) (omega arith)
named-from false true width body Q all = all body (omega arith)
named-from false false width body Q all = tt

-- so what holds from a body's place on holds of its name's
pub name_from : (flags : ℕ) (B : List ℕ) (at : ℕ) (Q : ℕ → Type 0) → ((q : ℕ) → body_at at ≤ q → Q q) → IfSome (name_place flags B at) Q
name_from flags B at =
    named-from (headed B at) (begins_named (namespace_at B at) (kind_at B at)) (matrix_width flags B at) (body_at at)

-- and behind the parent's address if there is one
address-before : (head front : Bool) (width body e : ℕ) → IfSome (named head front width body) (λ q. q + 2 ≤ e) → head ≡ true → body + 4 ≤ e
address-before true front width body e w is = omega (arith, w)
address-before false front width body e w is = absurd (cc is)

-- what is asked only of a value in a `Some`
if-some : (o : Option ℕ) (P Q : ℕ → Type 0) → IfSome o P → IfSome o (λ q. P q → Q q) → IfSome o Q
if-some None P Q p f = tt
if-some (Some q) P Q p f = f p

-- texts are where they were if their lengths are the same
texts_same : (B C : List ℕ) (o : Option ℕ) → IfSome o (λ q. part C q 2 ≡ part B q 2) → option_map (text_bytes C) o ≡ option_map (text_bytes B) o
texts_same B C None w = refl
texts_same B C (Some q) w = ap (λ x. Some (record { place = q + 2; length = le x })) w

-- the same header stands at a place in two lists of bytes
pub record SameHead (B C : List ℕ) (at : ℕ) : Type 0 where
  pub id : id_at C at ≡ id_at B at
  pub namespace : namespace_at C at ≡ namespace_at B at
  pub kind : kind_at C at ≡ kind_at B at
  pub flags : flags_at C at ≡ flags_at B at
  pub size : size_at C at ≡ size_at B at

module _ (flags : ℕ) (B C : List ℕ) (at : ℕ) (h : SameHead B C at) where
  -- the same body may follow it
  pub body_shape_kept : (before : List Record) → body_shape flags before C at ≡ body_shape flags before B at
  body_shape_kept before = rw (h.flags, h.namespace, h.kind, h.size) refl

  -- with matrix cells of the same width
  pub matrix_width_kept : matrix_width flags C at ≡ matrix_width flags B at
  matrix_width_kept = ap (λ x. (widths_of flags x).matrix) h.flags

  -- where the parent's address is the same, and the length of the name, so is what the block tells
  pub record_same : (headed B at ≡ true → part C (body_at at) 4 ≡ part B (body_at at) 4)
      → IfSome (name_place flags B at) (λ q. part C q 2 ≡ part B q 2)
      → record_at flags C at ≡ record_at flags B at
  record_same parent name =
      let address = λ (D : List ℕ). Some (le (part D (body_at at) 4)) in
      let p = where_true (headed B at) (address C) (address B) (λ has. ap (λ x. Some (le x)) (parent has)) in
      let n = texts_same B C (name_place flags B at) name in
      rw (h.id, h.namespace, h.kind, h.size, matrix_width_kept, p, n) refl

-- A block is read at a place in B, and C has as many bytes.
module _ (flags : ℕ) (before : List Record) (B C : List ℕ) (at e : ℕ) (is : block_at flags before B at ≡ Ok e) (long : length B ≡ length C) where
  -- its parts, and its end
  parts : Parts flags before B at
  parts = (block_parts flags before B at e is).0

  ends : e ≡ body_at at + size_at B at
  ends = (block_parts flags before B at e is).1

  -- where the block's bytes are the same up to a place, its parts are up to there
  pub part_kept : (stop : ℕ) → stop ≤ e → ((i : ℕ) → at ≤ i → i < stop → get_or B i 0 ≡ get_or C i 0)
      → (q n : ℕ) → at ≤ q → q + n ≤ stop → part C q n ≡ part B q n
  part_kept stop inside same q n low high =
      let fit : q + n ≤ length B = omega (arith, ends, parts.fits) in
      sym (part-alike B C q n fit (omega arith) (inner B C at stop q (q + n) same low high))

  -- where the header's bytes are the same, the header is
  pub head_kept : ((i : ℕ) → at ≤ i → i < body_at at → get_or B i 0 ≡ get_or C i 0) → SameHead B C at
  head_kept same =
      let kept = part_kept (body_at at) (omega (arith, ends)) same in
      record {
        id = ap le (kept at 4 (omega arith) (omega arith));
        namespace = ap le (kept (at + 4) 1 (omega arith) (omega arith));
        kind = ap le (kept (at + 5) 1 (omega arith) (omega arith));
        flags = ap le (kept (at + 6) 1 (omega arith) (omega arith));
        size = ap le (kept (at + 7) 4 (omega arith) (omega arith));
      }

  -- and it is read
  pub header_kept : ((i : ℕ) → at ≤ i → i < body_at at → get_or B i 0 ≡ get_or C i 0)
      → SameHead B C at × (read_of (block_header before) C at (length C) ≡ Ok (body_at at))
  header_kept same =
      let L = block_header before in
      let room : body_at at ≤ length B = omega (arith, parts.fits) in
      let read = shape_kept L (header-filled before) B C at (length B) (body_at at) (omega arith) (omega arith) (omega arith) parts.header same in
      (head_kept same, subst (λ n. read_of L C at n ≡ Ok (body_at at)) long read)

  -- the length of its name lies inside
  pub name_length_inside : IfSome (name_place flags B at) (λ q. q + 2 ≤ e)
  name_length_inside =
      name_inside before (widths_of flags (flags_at B at)) (namespace_at B at) (kind_at B at) (size_at B at) B (body_at at) e e
      (omega (arith, ends)) (omega (arith, ends, parts.fits)) (sym (body_read flags before B at e is))

  -- and so does its parent's address
  pub parent_inside : headed B at ≡ true → body_at at + 4 ≤ e
  parent_inside =
      address-before (headed B at) (begins_named (namespace_at B at) (kind_at B at)) (matrix_width flags B at) (body_at at) e name_length_inside

  -- where all bytes of the block are the same, it tells the same
  pub record_kept : ((i : ℕ) → at ≤ i → i < e → get_or B i 0 ≡ get_or C i 0) → record_at flags C at ≡ record_at flags B at
  record_kept same =
      let kept = part_kept e (omega arith) same in
      let name = if-some (name_place flags B at) (λ q. q + 2 ≤ e) (λ q. part C q 2 ≡ part B q 2) name_length_inside
      (name_from flags B at (λ q. q + 2 ≤ e → part C q 2 ≡ part B q 2) (λ q low high. kept q 2 (omega arith) high)) in
      record_same flags B C at (head_kept (λ i l k. same i l (omega (arith, ends)))) (λ has. kept (body_at at) 4 (omega arith) (parent_inside has)) name

  -- and its body is read
  body_kept : ((i : ℕ) → at ≤ i → i < e → get_or B i 0 ≡ get_or C i 0) → read_of (body_shape flags before B at) C (body_at at) e ≡ Ok e
  body_kept same =
      let room : e ≤ length B = omega (arith, ends, parts.fits) in
      shape_kept (body_shape flags before B at) (shape-filled flags before B at) B C (body_at at) e e (omega (arith, ends)) room (omega arith)
      (body_read flags before B at e is) (λ i l k. same i (omega arith) k)

-- a block is read again where its bytes are the same, behind records that are the same but for their parents, and tells the same
pub block_kept : (flags : ℕ) (before before' : List Record) (B C : List ℕ) (at e : ℕ) → block_at flags before B at ≡ Ok e → length B ≡ length C
    → ((i : ℕ) → at ≤ i → i < e → get_or B i 0 ≡ get_or C i 0) → but_parents before ≡ but_parents before'
    → (block_at flags before' C at ≡ Ok e) × (record_at flags C at ≡ record_at flags B at)
block_kept flags before before' B C at e is long same kin =
    let (p, ends) = block_parts flags before B at e is in
    let (h, header) = header_kept flags before B C at e is long (λ i l k. same i l (omega (arith, ends))) in
    let to : e ≡ body_at at + size_at C at = omega (arith, ends, h.size) in
    let shape = shape_kin before before' kin flags B at ∙ sym (body_shape_kept flags B C at h before') in
    let body = subst (λ L. read_of L C (body_at at) e ≡ Ok e) shape (body_kept flags before B C at e is long same) in
    let read = by_body flags before' C at (subst (λ L. read_of L C at (length C) ≡ Ok (body_at at)) (header_kin before before' kin) header)
    (omega (arith, to, ends, p.fits)) (subst (λ n. read_of (body_shape flags before' C at) C (body_at at) n ≡ Ok n) to body) in
    (read ∙ ap Ok (sym to), record_kept flags before B C at e is long same)
