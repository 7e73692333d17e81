-- A block is read exactly, or refused with its first fault; none begins another, and none is empty.
use Rattle.std.proofs.Common.{◌≡◌, ℕ, ◌+◌, ◌<◌, ◌≤◌, eqb, leb, ◌⊎◌, List, [], length, IfErr, Ok, Err, Result, sym, ap, refl, subst, inl, inr, arith}
use Rattle.std.proofs.lemmas.Bool.{cond_both, eqb-true, eqb-false, leb-true, leb-false}
use Rattle.std.proofs.lemmas.Result.{IfErr-weaker}
use Rattle.awd_fault.specs.declared.Cause.TheVariants.{BytesLeftOver}
use Rattle.awd_block_fault.specs.declared.BlockFault.{BlockFault}
use Rattle.awd_block_fault.specs.declared.BlockFault.TheVariants.{Header}
use Rattle.awd_block_fault.specs.Faults.{fault, short, on}
use Rattle.awd_source.specs.Fields.{bytes_at}
use Rattle.awd_format.specs.Sets.{Stands, NoneBegins, Reads}
use Rattle.awd_format.specs.Shapes.{Shape, SetOf, read_of, Filled}
use Rattle.awd_format.specs.FirstFaults.{FaultOf}
use Rattle.awd_format.proofs.Standing.{stands_one}
use Rattle.awd_format.proofs.SetLaws.{free-sized, free-then, filled-then, filled_more}
use Rattle.awd_format.proofs.RunLaws.{reads_then}
use Rattle.awd_format.proofs.ShapeLaws.{shape-reads, shape_free}
use Rattle.awd_format.proofs.FirstFaults.{shape-first}
use Rattle.awd_header.specs.Widths.{widths_of}
use Rattle.awd_roster.specs.declared.record.Record.{Record}
use Rattle.awd_blocks.specs.Heads.{namespace_at, kind_at, flags_at, size_at, body_at, block_header}
use Rattle.awd_blocks.specs.Blocks.{body_shape, LawfulBlock, in_header, filled_to, block_at, BlockFaultOf}
use Rattle.awd_blocks.proofs.Headers.{header-length, size_same, shape_same}
use Rattle.awd_blocks.proofs.Bodies.{header-filled, body-filled}

-- the members of a shape that have so many bytes
abbrev Sized : ℕ → Shape → List ℕ → Type 0
Sized n L m = (length m ≡ n) × SetOf L m

-- how a body of so many bytes is read, which must fit first
abbrev body_in : Shape → List ℕ → ℕ → ℕ → ℕ → Result ℕ BlockFault
body_in L B at end n = on Header (bytes_at at end n) (λ stop. on (λ x. x) (read_of L B at stop) (filled_to stop))

-- it does not fit; or its first fault is its shape's; or bytes are left over behind a member
abbrev BodyFault : Shape → List ℕ → ℕ → ℕ → ℕ → BlockFault → Type 0
BodyFault L B at end n x =
    ((end < at + n) × (x ≡ Header (short at)))
    ⊎ ((at + n ≤ end) × FaultOf L B at (at + n) x)
    ⊎ ((at + n ≤ end) × ((m : List ℕ) × SetOf L m × Stands B at (at + n) m × (length m < n) × (x ≡ Header (fault BytesLeftOver (at + length m)))))

-- a body of any shape
module _ (L : Shape) (B : List ℕ) (at n : ℕ) where
  stop-reads : (end : ℕ) → at + n ≤ end → (r : Result ℕ BlockFault) → Reads (SetOf L) B at (at + n) r → Reads (Sized n L) B at end (on (λ x. x) r (filled_to (at + n)))
  stop-reads end fit (Err x) none = λ m p s. none m p.1 (record { fits = omega (arith, p.0); is = s.is })
  stop-reads end fit (Ok e) (m, is, p, s) =
      cond_both (eqb e (at + n)) (Ok e) (Err (Header (fault BytesLeftOver e))) (Reads (Sized n L) B at end)
      (λ yes. (m, is, (omega (arith, is, eqb-true e (at + n) yes), p), record { fits = omega (arith, s.fits); is = s.is }))
      (λ no' k q t.
      let short' : Stands B at (at + n) k = record { fits = omega (arith, q.0); is = t.is } in
      let one = stands_one (SetOf L) (shape_free L) B at (at + n) m k p q.1 s short' in
      eqb-false e (at + n) no' (omega (arith, is, ap length one, q.0)))

  stop-first : (end : ℕ) → at + n ≤ end → (r : Result ℕ BlockFault) → IfErr r (λ x. FaultOf L B at (at + n) x) → Reads (SetOf L) B at (at + n) r
      → IfErr (on (λ x. x) r (filled_to (at + n))) (λ x. BodyFault L B at end n x)
  stop-first end fit (Err x) w reads = inr (inl (fit, w))
  stop-first end fit (Ok e) w (m, is, p, s) =
      cond_both (eqb e (at + n)) (Ok e) (Err (Header (fault BytesLeftOver e))) (λ r. IfErr r (λ x. BodyFault L B at end n x))
      (λ yes. tt)
      (λ no'.
      let ne = eqb-false e (at + n) no' in
      inr (inr (fit, (m, p, s, omega (arith, is, s.fits), ap (λ k. Header (fault BytesLeftOver k)) is))))

  module _ (filled : Filled L) (end : ℕ) (h : end ≤ length B) where
    body-reads : Reads (Sized n L) B at end (body_in L B at end n)
    body-reads =
        cond_both (leb (at + n) end) (Ok (at + n)) (Err (short at)) (λ r. Reads (Sized n L) B at end (on Header r (λ stop. on (λ x. x) (read_of L B at stop) (filled_to stop))))
        (λ yes.
        let fit = leb-true (at + n) end yes in
        stop-reads end fit (read_of L B at (at + n)) (shape-reads L filled B at (at + n) (omega arith) (omega arith)))
        (λ no' m p s. omega (arith, leb-false (at + n) end no', s.fits, p.0))

    body-first : IfErr (body_in L B at end n) (λ x. BodyFault L B at end n x)
    body-first =
        cond_both (leb (at + n) end) (Ok (at + n)) (Err (short at)) (λ r. IfErr (on Header r (λ stop. on (λ x. x) (read_of L B at stop) (filled_to stop))) (λ x. BodyFault L B at end n x))
        (λ yes.
        let fit = leb-true (at + n) end yes in
        stop-first end fit (read_of L B at (at + n)) (shape-first L filled B at (at + n) (omega arith) (omega arith)) (shape-reads L filled B at (at + n) (omega arith) (omega arith)))
        (λ no'. inl (leb-false (at + n) end no', refl))

module _ (flags : ℕ) (before : List Record) where
  pub block_free : NoneBegins (LawfulBlock flags before)
  block_free =
      free-then (SetOf (block_header before)) _ (shape_free (block_header before)) (λ head _. free-sized (size_at head 0) _ (λ m p. p.0))

  pub block-filled : LawfulBlock flags before [] → ⊥
  block-filled = filled_more (SetOf (block_header before)) _ (filled-then 3 _)

  pub shape-filled : (B : List ℕ) (p : ℕ) → Filled (body_shape flags before B p)
  shape-filled B p = body-filled before (widths_of flags (flags_at B p)) (namespace_at B p) (kind_at B p) (size_at B p)

  module _ (B : List ℕ) (at : ℕ) (h : at ≤ length B) where
    -- the body behind a header that stands there
    behind-reads : (head : List ℕ) → SetOf (block_header before) head → Stands B at (length B) head
        → Reads (Sized (size_at head 0) (body_shape flags before head 0)) B (at + length head) (length B) (body_in (body_shape flags before B at) B (at + length head) (length B) (size_at B at))
    behind-reads head p s =
        let l = header-length before head p in
        subst (λ n. Reads (Sized n (body_shape flags before head 0)) B (at + length head) (length B) (body_in (body_shape flags before B at) B (at + length head) (length B) (size_at B at))) (sym (size_same B at (length B) head s l))
        (subst (λ L. Reads (Sized (size_at B at) L) B (at + length head) (length B) (body_in (body_shape flags before B at) B (at + length head) (length B) (size_at B at))) (sym (shape_same B at (length B) head s l flags before))
        (body-reads (body_shape flags before B at) B (at + length head) (size_at B at) (shape-filled B at) (length B) (omega arith)))

    pub block-reads : Reads (LawfulBlock flags before) B at (length B) (block_at flags before B at)
    block-reads =
        reads_then B at (length B) in_header (SetOf (block_header before)) (λ head body. Sized (size_at head 0) (body_shape flags before head 0) body) (shape_free (block_header before))
        (read_of (block_header before) B at (length B)) (λ body. body_in (body_shape flags before B at) B body (length B) (size_at B at))
        (shape-reads (block_header before) (header-filled before) B at (length B) h (omega arith))
        behind-reads

    -- a fault of the body, told as one of the block
    as_block : (head : List ℕ) → SetOf (block_header before) head → Stands B at (length B) head → (x : BlockFault)
        → BodyFault (body_shape flags before B at) B (body_at at) (length B) (size_at B at) x → BlockFaultOf flags before B at x
    as_block head p s x (inl (lt, is)) = inr (inl (head, p, s, lt, is))
    as_block head p s x (inr (inl (fit, w))) = inr (inr (inl (record { head = head; lawful = p; stands = s; fits = fit }, w)))
    as_block head p s x (inr (inr (fit, w))) = inr (inr (inr (record { head = head; lawful = p; stands = s; fits = fit }, w)))

    behind-first : (r : Result ℕ BlockFault) → IfErr r (λ y. FaultOf (block_header before) B at (length B) y) → Reads (SetOf (block_header before)) B at (length B) r
        → IfErr (on in_header r (λ body. body_in (body_shape flags before B at) B body (length B) (size_at B at))) (λ x. BlockFaultOf flags before B at x)
    behind-first (Err y) w reads = inl (y, w, refl)
    behind-first (Ok e) w (head, is, p, s) =
        let place : e ≡ body_at at = omega (arith, is, header-length before head p) in
        subst (λ q. IfErr (body_in (body_shape flags before B at) B q (length B) (size_at B at)) (λ x. BlockFaultOf flags before B at x)) (sym place)
        (IfErr-weaker (body_in (body_shape flags before B at) B (body_at at) (length B) (size_at B at)) _ _ (as_block head p s)
        (body-first (body_shape flags before B at) B (body_at at) (size_at B at) (shape-filled B at) (length B) (omega arith)))

    pub block-first : IfErr (block_at flags before B at) (λ x. BlockFaultOf flags before B at x)
    block-first =
        behind-first (read_of (block_header before) B at (length B))
        (shape-first (block_header before) (header-filled before) B at (length B) h (omega arith))
        (shape-reads (block_header before) (header-filled before) B at (length B) h (omega arith))
