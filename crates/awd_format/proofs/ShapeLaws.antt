-- Each shape is read exactly, and none of its members begins another.
use Rattle.std.proofs.Common.{◌≡◌, ℕ, ◌+◌, ◌-◌, ◌≤◌, Bool, true, false, cond, List, [], length, Some, None, Ok, Err, Option, Result, sym, refl, ap, ◌∙◌, subst, arith}
use Rattle.std.proofs.lemmas.Bool.{both_ways}
use Rattle.awd_source.specs.Bytes.{le, part}
use Rattle.awd_block_fault.specs.declared.FieldFault.{FieldFault}
use Rattle.awd_block_fault.specs.declared.BlockFault.{BlockFault}
use Rattle.awd_block_fault.specs.declared.BlockFault.TheVariants.{Field, Entry}
use Rattle.awd_block_fault.specs.Faults.{fault, field_of, on}
use Rattle.awd_source.specs.Fields.{number_at, bytes_at}
use Rattle.awd_format.specs.Runs.{KindLaw, counted_at}
use Rattle.awd_format.specs.Sets.{Stands, NoneBegins, Reads, Wide, Then, Counted}
use Rattle.awd_format.specs.Shapes.{Shape, number, bytes, counted, measured, also, sound, Given, SetOf, tested, read_of, entry_of, Filled}
use Rattle.awd_format.proofs.Standing.{fit_both, stands-part, stands-first, stands_one}
use Rattle.awd_source.proofs.Parts.{length_part}
use Rattle.awd_format.proofs.SetLaws.{free-sized, free-wide, free-then, counted-free}
use Rattle.awd_format.proofs.RunLaws.{reads_turned, reads_more, reads_then, counted-reads, measured-reads}

pub shape_free : (L : Shape) → NoneBegins (SetOf L)
shape_free (number width allowed cause next) =
    free-then (Wide width) _ (free-wide width) (λ digits _ m t p q. shape_free (next (le digits)) m t p.1 q.1)
shape_free (bytes n) = free-wide n
shape_free (counted n entry) = counted-free (λ i. SetOf (entry i)) (λ i. shape_free (entry i)) n 0
shape_free (measured n entry) = free-sized n _ (λ m p. p.2)
shape_free (also a b) = free-then (SetOf a) _ (shape_free a) (λ _ _. shape_free b)
shape_free (sound a flaw) = λ m t p q. shape_free a m t p.0 q.0

module _ (B : List ℕ) (at end : ℕ) (h : end ≤ length B) where
  given-reads : (b : Bool) (P : List ℕ → Type 0) (x : BlockFault) (p : ℕ) (r : Result ℕ BlockFault) → Reads P B p end r → Reads (Given b P) B p end (cond b r (Err x))
  given-reads true P x p (Ok e) (m, is, q, s) = (m, is, (refl, q), s)
  given-reads true P x p (Err y) none = λ m q s. none m q.1 s
  given-reads false P x p r w = λ m q s. both_ways false refl q.0

  number-reads : (width : ℕ) (Q : List ℕ → List ℕ → Type 0) (f : ℕ → Result ℕ BlockFault)
      → ((digits : List ℕ) → length digits ≡ width → Stands B at end digits → Reads (Q digits) B (at + width) end (f (le digits)))
      → Reads (Then (Wide width) Q) B at end (on Field (number_at B at end width) f)
  number-reads width Q f next =
      fit_both at width end (le (part B at width)) (λ r. Reads (Then (Wide width) Q) B at end (on Field r f))
      (λ fit.
      let l : length (part B at width) ≡ width = length_part B at width (omega arith) in
      let s = stands-part B at end width fit h in
      reads_more B at end (Wide width) Q (free-wide width) (part B at width) l s (f (le (part B at width)))
      (subst (λ n. Reads (Q (part B at width)) B (at + n) end (f (le (part B at width)))) (sym l) (next (part B at width) l s)))
      (λ lt bs v st.
      let first = stands-first B at end v.0 v.1 (subst (Stands B at end) v.2 st) in
      omega (arith, first.fits, v.3))

  bytes-reads : (n : ℕ) → Reads (Wide n) B at end (bytes_at at end n)
  bytes-reads n =
      fit_both at n end (at + n) (Reads (Wide n) B at end)
      (λ fit.
      let l : length (part B at n) ≡ n = length_part B at n (omega arith) in
      (part B at n, ap (λ x. at + x) (sym l), l, stands-part B at end n fit h))
      (λ lt m p st. omega (arith, st.fits, p))

  sound-reads : (P : List ℕ → Type 0) → NoneBegins P → (flaw : List ℕ → Option FieldFault) (r : Result ℕ BlockFault) → Reads P B at end r
      → Reads (λ m. P m × (flaw m ≡ None)) B at end (on (λ x. x) r (λ e. tested at e (flaw (part B at (e - at)))))
  sound-reads P free flaw (Err x) none = λ m p s. none m p.0 s
  sound-reads P free flaw (Ok e) (m, is, p, s) =
      let l : e - at ≡ length m = omega (arith, is) in
      let same : part B at (e - at) ≡ m = ap (part B at) l ∙ s.is in
      subst (λ x. Reads (λ m. P m × (flaw m ≡ None)) B at end (tested at e (flaw x))) (sym same) (judged (flaw m) refl)
    where
      judged : (o : Option FieldFault) → flaw m ≡ o → Reads (λ m. P m × (flaw m ≡ None)) B at end (tested at e o)
      judged None eq = (m, is, (p, eq), s)
      judged (Some x) eq = λ n q st.
          let one = stands_one P free B at end n m q.0 p st s in
          absurd (cc (q.1, eq, ap flaw one))

-- the law of entries that shapes describe
kind-from : (entry : ℕ → Shape) → ((i : ℕ) → SetOf (entry i) [] → ⊥)
    → ((i : ℕ) (B : List ℕ) (at end : ℕ) → at ≤ end → end ≤ length B → Reads (SetOf (entry i)) B at end (read_of (entry i) B at end))
    → KindLaw (λ i. entry_of (entry i)) (λ i. SetOf (entry i))
kind-from entry filled exact = record {
  nonempty = filled;
  prefix_free = λ i. shape_free (entry i);
  exact = λ i B at end l h. reads_turned B at end field_of (SetOf (entry i)) (read_of (entry i) B at end) (exact i B at end l h);
}

pub shape-reads : (L : Shape) → Filled L → (B : List ℕ) (at end : ℕ) → at ≤ end → end ≤ length B → Reads (SetOf L) B at end (read_of L B at end)
shape-reads (number width allowed cause next) filled B at end l h =
    number-reads B at end h width _ _ (λ digits len st.
    given-reads B at end h (allowed (le digits)) (SetOf (next (le digits))) (Field (fault cause at)) (at + width) (read_of (next (le digits)) B (at + width) end)
    (shape-reads (next (le digits)) (filled (le digits)) B (at + width) end (omega (arith, len, st.fits)) h))
shape-reads (bytes n) filled B at end l h = reads_turned B at end Field (Wide n) (bytes_at at end n) (bytes-reads B at end h n)
shape-reads (counted n entry) filled B at end l h =
    reads_turned B at end Entry (Counted (λ i. SetOf (entry i)) 0 n) (counted_at (λ i. entry_of (entry i)) B end n 0 at)
    (counted-reads (λ i. entry_of (entry i)) (λ i. SetOf (entry i)) (kind-from entry (λ i. (filled i).0) (λ i. shape-reads (entry i) (filled i).1)) B end h n 0 at l)
shape-reads (measured n entry) filled B at end l h =
    measured-reads (λ i. entry_of (entry i)) (λ i. SetOf (entry i)) (kind-from entry (λ i. (filled i).0) (λ i. shape-reads (entry i) (filled i).1)) B at end h n
shape-reads (also a b) filled B at end l h =
    reads_then B at end (λ x. x) (SetOf a) (λ _. SetOf b) (shape_free a) (read_of a B at end) (λ e. read_of b B e end) (shape-reads a filled.0 B at end l h)
    (λ m p st. shape-reads b filled.1 B (at + length m) end st.fits h)
shape-reads (sound a flaw) filled B at end l h =
    sound-reads B at end h (SetOf a) (shape_free a) flaw (read_of a B at end) (shape-reads a filled B at end l h)

pub shape-kind : (entry : ℕ → Shape) → ((i : ℕ) → (SetOf (entry i) [] → ⊥) × Filled (entry i)) → KindLaw (λ i. entry_of (entry i)) (λ i. SetOf (entry i))
shape-kind entry filled = kind-from entry (λ i. (filled i).0) (λ i. shape-reads (entry i) (filled i).1)
