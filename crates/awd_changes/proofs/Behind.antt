-- A block depends on no byte before it: where all bytes from its place on are the same, it is read alike, or refused alike, and tells the same.
use Rattle.std.proofs.Common.{◌≡◌, ℕ, ◌+◌, ◌-◌, ◌≤◌, List, length, take, drop, Ok, Result, sym, refl, ap, ◌∙◌, subst, arith, drop-drop}
use Rattle.std.proofs.lemmas.Result.{IfOk-weaker}
use Rattle.awd_source.specs.Bytes.{le, part}
use Rattle.awd_block_fault.specs.declared.BlockFault.{BlockFault}
use Rattle.awd_block_fault.specs.declared.BlockFault.TheVariants.{Header}
use Rattle.awd_block_fault.specs.Faults.{on}
use Rattle.awd_source.specs.Fields.{bytes_at}
use Rattle.awd_format.specs.Shapes.{Shape, read_of}
use Rattle.awd_format.proofs.Standing.{fit_both}
use Rattle.awd_format.proofs.Locality.{shape-ahead, shape-local, on_alike}
use Rattle.awd_roster.specs.declared.record.Record.{Record}
use Rattle.awd_roster.specs.Table.{but_parents}
use Rattle.awd_blocks.specs.Heads.{size_at, body_at, block_header}
use Rattle.awd_blocks.specs.Blocks.{body_shape, in_header, filled_to, block_at}
use Rattle.awd_blocks.specs.Records.{record_at, read_block}
use Rattle.awd_changes.proofs.Kin.{header_kin, shape_kin}
use Rattle.awd_changes.proofs.Kept.{SameHead, name_from, body_shape_kept, record_same}

-- a body of so many bytes, read in two ways that come to the same where it fits
fitting : (body end size : ℕ) (f g : ℕ → Result ℕ BlockFault) → (body + size ≤ end → f (body + size) ≡ g (body + size))
    → on Header (bytes_at body end size) f ≡ on Header (bytes_at body end size) g
fitting body end size f g same = fit_both body size end (body + size) (λ r. on Header r f ≡ on Header r g) same (λ _. refl)

-- how the body is read of the block whose header is at a place, up to an end, and before, whether it fits
abbrev content_at : ℕ → List Record → List ℕ → ℕ → ℕ → ℕ → Result ℕ BlockFault
content_at flags before B at body end = on (λ x. x) (read_of (body_shape flags before B at) B body end) (filled_to end)

abbrev body_in : ℕ → List Record → List ℕ → ℕ → ℕ → Result ℕ BlockFault
body_in flags before B at body = on Header (bytes_at body (length B) (size_at B at)) (content_at flags before B at body)

-- Bytes of one length that are the same from a place on.
module _ (B C : List ℕ) (at : ℕ) (h : at ≤ length B) (same : drop at B ≡ drop at C) (long : length B ≡ length C) where
  -- parts that lie there are the same
  pub part_behind : (p n : ℕ) → at ≤ p → part B p n ≡ part C p n
  part_behind p n l =
      let k : at + (p - at) ≡ p = omega arith in
      let dropped : drop (at + (p - at)) B ≡ drop (at + (p - at)) C =
      sym (drop-drop (p - at) at B) ∙ ap (drop (p - at)) same ∙ drop-drop (p - at) at C in
      ap (take n) (subst (λ q. drop q B ≡ drop q C) k dropped)

  -- so what is read there
  shape-behind : (L : Shape) (p end : ℕ) → at ≤ p → p ≤ end → end ≤ length B → read_of L B p end ≡ read_of L C p end
  shape-behind L p end l k f = shape-local L B C p end k f (omega arith) (part_behind p (end - p) l)

  -- the same header stands there
  pub head_behind : SameHead B C at
  head_behind = record {
    id = ap le (sym (part_behind at 4 (omega arith)));
    namespace = ap le (sym (part_behind (at + 4) 1 (omega arith)));
    kind = ap le (sym (part_behind (at + 5) 1 (omega arith)));
    flags = ap le (sym (part_behind (at + 6) 1 (omega arith)));
    size = ap le (sym (part_behind (at + 7) 4 (omega arith)));
  }

  -- the block there tells the same
  pub record_behind : (flags : ℕ) → record_at flags B at ≡ record_at flags C at
  record_behind flags =
      sym (record_same flags B C at head_behind (λ _. sym (part_behind (body_at at) 4 (omega arith)))
      (name_from flags B at (λ q. part C q 2 ≡ part B q 2) (λ q l. sym (part_behind q 2 (omega arith)))))

  -- Behind records that are the same but for their parents.
  module _ (flags : ℕ) (before before' : List Record) (kin : but_parents before ≡ but_parents before') where
    -- its header is read alike
    header-behind : read_of (block_header before) B at (length B) ≡ read_of (block_header before') C at (length C)
    header-behind =
        ap (λ L. read_of L B at (length B)) (header_kin before before' kin)
        ∙ shape-behind (block_header before') at (length B) (omega arith) h (omega arith)
        ∙ ap (read_of (block_header before') C at) long

    -- says the same of its body
    shapes : body_shape flags before B at ≡ body_shape flags before' C at
    shapes = shape_kin before before' kin flags B at ∙ sym (body_shape_kept flags B C at head_behind before')

    -- and that is read alike, if it fits
    content-behind : (body end : ℕ) → at ≤ body → body ≤ end → end ≤ length B
        → content_at flags before B at body end ≡ content_at flags before' C at body end
    content-behind body end l k f =
        let read = shape-behind (body_shape flags before' C at) body end l k f in
        ap (λ r. on (λ x. x) r (filled_to end)) (ap (λ L. read_of L B body end) shapes ∙ read)

    -- or fits as little
    body-behind : (body : ℕ) → at ≤ body → body_in flags before B at body ≡ body_in flags before' C at body
    body-behind body l =
        let size = size_at B at in
        let content = content_at flags before' C at body in
        fitting body (length B) size (content_at flags before B at body) content (λ fits. content-behind body (body + size) l (omega arith) fits)
        ∙ ap (λ n. on Header (bytes_at body n size) content) long ∙ ap (λ n. on Header (bytes_at body (length C) n) content) (sym head_behind.size)

    -- so the block is read to the same place, or has the same fault
    pub block_at_behind : block_at flags before B at ≡ block_at flags before' C at
    block_at_behind =
        let head = read_of (block_header before) B at (length B) in
        on_alike in_header head (read_of (block_header before') C at (length C))
        (body_in flags before B at) (body_in flags before' C at) header-behind
        (IfOk-weaker head _ _ (λ body w. body-behind body w.0) (shape-ahead (block_header before) B at (length B) h))

    -- with what it tells
    pub block_behind : read_block flags before B at ≡ read_block flags before' C at
    block_behind =
        ap (λ r. on (λ x. x) r (λ e. Ok (record { told = record_at flags B at; behind = e }))) block_at_behind
        ∙ ap (λ t. on (λ x. x) (block_at flags before' C at) (λ e. Ok (record { told = t; behind = e }))) (record_behind flags)
