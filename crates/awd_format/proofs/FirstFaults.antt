-- Reading refuses with the first fault, and with no other.
use Rattle.std.proofs.Common.{◌≡◌, ℕ, ◌+◌, ◌-◌, ◌<◌, ◌≤◌, cond, leb, ◌⊎◌, List, [], length, IfErr, Some, None, Ok, Err, Option, Result, sym, refl, ap, ◌∙◌, subst, inl, inr, zero-add, arith}
use Rattle.std.proofs.lemmas.Result.{IfErr-weaker}
use Rattle.std.proofs.lemmas.Bool.{cond_both, cond-true, cond-false, le-leb, lt-leb}
use Rattle.awd_source.specs.Bytes.{le, part}
use Rattle.awd_block_fault.specs.declared.FieldFault.{FieldFault}
use Rattle.awd_block_fault.specs.declared.EntryFault.{EntryFault}
use Rattle.awd_block_fault.specs.declared.BlockFault.{BlockFault}
use Rattle.awd_block_fault.specs.declared.BlockFault.TheVariants.{Field, Entry}
use Rattle.awd_block_fault.specs.Faults.{fault, short, in_entry, field_of, on, turned}
use Rattle.awd_source.specs.Fields.{bytes_at}
use Rattle.awd_format.specs.Runs.{counted_at, filling_at}
use Rattle.awd_format.specs.Sets.{Stands, Reads, Counted}
use Rattle.awd_format.specs.Shapes.{Shape, number, bytes, counted, measured, also, sound, SetOf, tested, read_of, entry_of, Filled}
use Rattle.awd_format.specs.FirstFaults.{NoRoom, Standing, Flawed, InRun, FaultOf}
use Rattle.awd_format.proofs.Standing.{fit_both}
use Rattle.awd_format.proofs.RunLaws.{Later, counted-later, filling-later, reads-member, counted-at-fault, filling-at-fault}
use Rattle.awd_format.proofs.ShapeLaws.{shape-reads, shape_free, shape-kind}

-- entries of a run, in a holder that ends at end
module _ (entry : ℕ → Shape) (filled : (i : ℕ) → (SetOf (entry i) [] → ⊥) × Filled (entry i)) (B : List ℕ) (end : ℕ) (h : end ≤ length B) where
  abbrev run-first : (ℕ → ℕ → Type 0) → ℕ → BlockFault → Type 0
  run-first more at x = InRun (λ i. SetOf (entry i)) (λ i p. FaultOf (entry i) B p end) more B at end x

  run-refused : ((i at : ℕ) → at ≤ end → IfErr (read_of (entry i) B at end) (λ x. FaultOf (entry i) B at end x))
      → (more : ℕ → ℕ → Type 0) (at : ℕ) (r : Result ℕ EntryFault) → Later (λ i. entry_of (entry i)) (λ i. SetOf (entry i)) (shape-kind entry filled) B end h more 0 at r
      → IfErr (turned Entry r) (λ x. run-first more at x)
  run-refused each more at (Ok e) w = tt
  run-refused each more at (Err x) (j, m, ix, c, s, err, go) =
      found (read_of (entry x.index) B (at + length m) end) (each x.index (at + length m) s.fits) err
    where
      found : (r : Result ℕ BlockFault) → IfErr r (λ z. FaultOf (entry x.index) B (at + length m) end z) → turned field_of r ≡ Err x.field → run-first more at (Entry x)
      found (Ok e) w is = absurd (cc is)
      found (Err z) w is =
          let same : x.field ≡ field_of z = cc in
          record {
            index = x.index;
            before = m;
            members = subst (λ a. Counted (λ i. SetOf (entry i)) 0 a m) (sym (ix ∙ zero-add j)) c;
            stand = s;
            goes_on = go;
            own = z;
            first = w;
            told = ap (λ y. Entry (in_entry x.index y)) same;
          }

-- bytes that must fit
room : (n at end : ℕ) → IfErr (turned Field (bytes_at at end n)) (λ x. NoRoom n at end x)
room n at end = fit_both at n end (at + n) (λ r. IfErr (turned Field r) (λ x. NoRoom n at end x)) (λ _. tt) (λ lt. (lt, refl))

-- a fault of the first part, or one behind the member that stands there
module _ (P : List ℕ → Type 0) (F : BlockFault → Type 0) (B : List ℕ) (at end : ℕ) where
  behind : (Q : List ℕ → BlockFault → Type 0) (r : Result ℕ BlockFault) (f : ℕ → Result ℕ BlockFault) → IfErr r F → Reads P B at end r
      → ((m : List ℕ) → P m → Stands B at end m → IfErr (f (at + length m)) (λ x. Q m x))
      → IfErr (on (λ x. x) r f) (λ x. F x ⊎ Standing P B at end (λ m. Q m x))
  behind Q (Err x) f w reads next = inl w
  behind Q (Ok e) f w (m, is, p, s) next =
      subst (λ e. IfErr (f e) (λ x. F x ⊎ Standing P B at end (λ m. Q m x))) (sym is) (IfErr-weaker (f (at + length m)) _ _ (λ x w. inr (m, p, s, w)) (next m p s))

flawed : (flaw : List ℕ → Option FieldFault) (B : List ℕ) (at end : ℕ) (m : List ℕ) → Stands B at end m
    → IfErr (tested at (at + length m) (flaw (part B at (at + length m - at)))) (λ x. Flawed (flaw m) at x)
flawed flaw B at end m s =
    let l : at + length m - at ≡ length m = omega arith in
    subst (λ n. IfErr (tested at (at + length m) (flaw n)) (λ x. Flawed (flaw m) at x)) (sym (ap (part B at) l ∙ s.is)) (go (flaw m))
  where
    go : (o : Option FieldFault) → IfErr (tested at (at + length m) o) (λ x. Flawed o at x)
    go None = tt
    go (Some y) = (y, refl, refl)

pub shape-first : (L : Shape) → Filled L → (B : List ℕ) (at end : ℕ) → at ≤ end → end ≤ length B → IfErr (read_of L B at end) (λ x. FaultOf L B at end x)
shape-first (number width allowed cause next) filled B at end l h =
    fit_both at width end (le (part B at width))
    (λ r. IfErr (on Field r (λ v. cond (allowed v) (read_of (next v) B (at + width) end) (Err (Field (fault cause at))))) (λ x. FaultOf (number width allowed cause next) B at end x))
    (λ fit.
    let v = le (part B at width) in
    cond_both (allowed v) (read_of (next v) B (at + width) end) (Err (Field (fault cause at))) (λ r. IfErr r (λ x. FaultOf (number width allowed cause next) B at end x))
    (λ ok. IfErr-weaker (read_of (next v) B (at + width) end) _ _ (λ x w. inr (inr (fit, ok, w))) (shape-first (next v) (filled v) B (at + width) end fit h))
    (λ bad. inr (inl (fit, bad, refl))))
    (λ lt. inl (lt, refl))
shape-first (bytes n) filled B at end l h = room n at end
shape-first (counted n entry) filled B at end l h =
    run-refused entry filled B end h (λ i p k. shape-first (entry i) (filled i).1 B p end k h) (λ i _. i < n) at (counted_at (λ i. entry_of (entry i)) B end n 0 at)
    (counted-later (λ i. entry_of (entry i)) (λ i. SetOf (entry i)) (shape-kind entry filled) B end h n n 0 at (omega arith) l)
shape-first (measured n entry) filled B at end l h =
    fit_both at n end (at + n)
    (λ r. IfErr (on Field r (λ stop. turned Entry (filling_at (λ i. entry_of (entry i)) B stop n 0 at))) (λ x. FaultOf (measured n entry) B at end x))
    (λ fit.
    let k : at + n ≤ length B = omega arith in
    let r = filling_at (λ i. entry_of (entry i)) B (at + n) n 0 at in
    IfErr-weaker (turned Entry r) _ _ (λ x w. inr (fit, w))
    (run-refused entry filled B (at + n) k (λ i p q. shape-first (entry i) (filled i).1 B p (at + n) q k) (λ _ p. p < at + n) at r
    (filling-later (λ i. entry_of (entry i)) (λ i. SetOf (entry i)) (shape-kind entry filled) B (at + n) k n 0 at (omega arith))))
    (λ lt. inl (lt, refl))
shape-first (also a b) filled B at end l h =
    behind (SetOf a) (λ x. FaultOf a B at end x) B at end (λ m x. FaultOf b B (at + length m) end x) (read_of a B at end) (λ e. read_of b B e end)
    (shape-first a filled.0 B at end l h) (shape-reads a filled.0 B at end l h)
    (λ m _ s. shape-first b filled.1 B (at + length m) end s.fits h)
shape-first (sound a flaw) filled B at end l h =
    behind (SetOf a) (λ x. FaultOf a B at end x) B at end (λ m x. Flawed (flaw m) at x) (read_of a B at end) (λ e. tested at e (flaw (part B at (e - at))))
    (shape-first a filled B at end l h) (shape-reads a filled B at end l h)
    (λ m _ s. flawed flaw B at end m s)

-- conversely, a first fault is what reading tells
module _ (at end n v : ℕ) (f : ℕ → Result ℕ BlockFault) where
  fits_on : at + n ≤ end → on Field (cond (leb (at + n) end) (Ok v) (Err (short at))) f ≡ f v
  fits_on fit = ap (λ r. on Field r f) (cond-true (leb (at + n) end) (Ok v) (Err (short at)) (le-leb (at + n) end fit))

  short_on : (x : BlockFault) → NoRoom n at end x → on Field (cond (leb (at + n) end) (Ok v) (Err (short at))) f ≡ Err x
  short_on x (lt, is) = ap (λ r. on Field r f) (cond-false (leb (at + n) end) (Ok v) (Err (short at)) (lt-leb (at + n) end lt)) ∙ ap Err (sym is)

member-read : (L : Shape) → Filled L → (B : List ℕ) (at end : ℕ) → end ≤ length B → (m : List ℕ) → SetOf L m → Stands B at end m → read_of L B at end ≡ Ok (at + length m)
member-read L filled B at end h m p s = reads-member B at end (SetOf L) (shape_free L) (read_of L B at end) (shape-reads L filled B at end (omega (arith, s.fits)) h) m p s

pub shape-only : (L : Shape) → Filled L → (B : List ℕ) (at end : ℕ) → at ≤ end → end ≤ length B → (x : BlockFault) → FaultOf L B at end x → read_of L B at end ≡ Err x
shape-only (number width allowed cause next) filled B at end l h x (inl none) = short_on at end width (le (part B at width)) _ x none
shape-only (number width allowed cause next) filled B at end l h x (inr (inl (fit, bad, is))) =
    fits_on at end width (le (part B at width)) _ fit ∙ cond-false (allowed (le (part B at width))) _ _ bad ∙ ap Err (sym is)
shape-only (number width allowed cause next) filled B at end l h x (inr (inr (fit, ok, w))) =
    fits_on at end width (le (part B at width)) _ fit ∙ cond-true (allowed (le (part B at width))) _ _ ok
    ∙ shape-only (next (le (part B at width))) (filled (le (part B at width))) B (at + width) end fit h x w
shape-only (bytes n) filled B at end l h x w = short_on at end n (at + n) Ok x w
shape-only (counted n entry) filled B at end l h x w =
    ap (turned Entry) (counted-at-fault (λ i. entry_of (entry i)) (λ i. SetOf (entry i)) (shape-kind entry filled) B end h n at w.before w.index w.members w.stand w.goes_on (field_of w.own)
    (ap (turned field_of) (shape-only (entry w.index) (filled w.index).1 B (at + length w.before) end w.stand.fits h w.own w.first)))
    ∙ ap Err (sym w.told)
shape-only (measured n entry) filled B at end l h x (inl none) = short_on at end n (at + n) _ x none
shape-only (measured n entry) filled B at end l h x (inr (fit, w)) =
    let k : at + n ≤ length B = omega arith in
    fits_on at end n (at + n) _ fit
    ∙ ap (turned Entry) (filling-at-fault (λ i. entry_of (entry i)) (λ i. SetOf (entry i)) (shape-kind entry filled) B (at + n) k n at w.before w.index (omega arith) w.members w.stand w.goes_on (field_of w.own)
    (ap (turned field_of) (shape-only (entry w.index) (filled w.index).1 B (at + length w.before) (at + n) w.stand.fits k w.own w.first)))
    ∙ ap Err (sym w.told)
shape-only (also a b) filled B at end l h x (inl w) = ap (λ r. on (λ x. x) r (λ e. read_of b B e end)) (shape-only a filled.0 B at end l h x w)
shape-only (also a b) filled B at end l h x (inr (m, p, s, w)) =
    ap (λ r. on (λ x. x) r (λ e. read_of b B e end)) (member-read a filled.0 B at end h m p s) ∙ shape-only b filled.1 B (at + length m) end s.fits h x w
shape-only (sound a flaw) filled B at end l h x (inl w) = ap (λ r. on (λ x. x) r (λ e. tested at e (flaw (part B at (e - at))))) (shape-only a filled B at end l h x w)
shape-only (sound a flaw) filled B at end l h x (inr (m, p, s, (y, found, is))) =
    let n : at + length m - at ≡ length m = omega arith in
    ap (λ r. on (λ x. x) r (λ e. tested at e (flaw (part B at (e - at))))) (member-read a filled B at end h m p s)
    ∙ ap (λ o. tested at (at + length m) o) (ap flaw (ap (part B at) n ∙ s.is) ∙ found) ∙ ap Err (sym is)
