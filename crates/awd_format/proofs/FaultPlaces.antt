-- A fault lies from the place that is read from on, and inside the holder.
use Rattle.std.proofs.Common.{◌≡◌, ℕ, zero, suc, ◌+◌, ◌-◌, ◌≤◌, cond, eqb, List, length, IfErr, Some, None, Ok, Err, Option, Result, refl, arith, length-take}
use Rattle.std.proofs.lemmas.Bool.{cond_both}
use Rattle.awd_source.specs.Bytes.{le, part}
use Rattle.awd_block_fault.specs.declared.FieldFault.{FieldFault}
use Rattle.awd_block_fault.specs.declared.EntryFault.{EntryFault}
use Rattle.awd_block_fault.specs.declared.BlockFault.{BlockFault}
use Rattle.awd_block_fault.specs.declared.BlockFault.TheVariants.{Field, Entry}
use Rattle.awd_block_fault.specs.Faults.{fault, in_entry, field_of, on, turned}
use Rattle.awd_source.specs.Fields.{bytes_at}
use Rattle.awd_format.specs.Runs.{Reading, counted_at, filling_at}
use Rattle.awd_format.specs.Shapes.{Shape, number, bytes, counted, measured, also, sound, tested, read_of, entry_of, TestsInside}
use Rattle.awd_format.proofs.Standing.{fit_both}
use Rattle.awd_format.proofs.Locality.{Ahead, shape-ahead, entry-ahead}

-- the field's fault inside a fault, of each kind of fault
abbrev of_field : FieldFault → FieldFault
of_field x = x

abbrev of_entry : EntryFault → FieldFault
of_entry x = x.field

abbrev Placed : {F : Type 0} → (F → FieldFault) → ℕ → ℕ → Result ℕ F → Type 0
Placed field at end r = IfErr r (λ x. (at ≤ (field x).place) × ((field x).place ≤ end))

placed-later : {G : Type 0} (g : G → FieldFault) (at e end : ℕ) → at ≤ e → (r : Result ℕ G) → Placed g e end r → Placed g at end r
placed-later g at e end h (Ok b) w = tt
placed-later g at e end h (Err x) w = (omega (arith, w.0), w.1)

placed_on : {F G : Type 0} (turn : F → G) (f : F → FieldFault) (g : G → FieldFault) → ((x : F) → g (turn x) ≡ f x) → (at end : ℕ) (r : Result ℕ F) (next : ℕ → Result ℕ G)
    → Placed f at end r → Ahead at end r → ((e : ℕ) → at ≤ e → e ≤ end → Placed g e end (next e)) → Placed g at end (on turn r next)
placed_on turn f g same at end (Err x) next p a q = rw (same x) p
placed_on turn f g same at end (Ok e) next p a q = placed-later g at e end a.0 (next e) (q e a.0 a.1)

placed-turned : {F G : Type 0} (turn : F → G) (f : F → FieldFault) (g : G → FieldFault) → ((x : F) → g (turn x) ≡ f x) → (at end : ℕ) (r : Result ℕ F) → Placed f at end r → Placed g at end (turned turn r)
placed-turned turn f g same at end (Ok e) p = tt
placed-turned turn f g same at end (Err x) p = rw (same x) p

module _ (read : Reading) (B : List ℕ) (end : ℕ)
    (ahead : (i at : ℕ) → at ≤ end → Ahead at end (read i B at end))
    (placed : (i at : ℕ) → at ≤ end → Placed of_field at end (read i B at end)) where
  placed-counted : (n i at : ℕ) → at ≤ end → Placed of_entry at end (counted_at read B end n i at)
  placed-counted zero i at h = tt
  placed-counted (suc n) i at h =
      placed_on (in_entry i) of_field of_entry (λ x. refl) at end (read i B at end) (λ e. counted_at read B end n (i + 1) e) (placed i at h) (ahead i at h) (λ e _ l. placed-counted n (i + 1) e l)

  placed-filling : (turns i at : ℕ) → at ≤ end → Placed of_entry at end (filling_at read B end turns i at)
  placed-filling zero i at h = tt
  placed-filling (suc turns) i at h =
      cond_both (eqb at end) (Ok at) (on (in_entry i) (read i B at end) (λ e. filling_at read B end turns (i + 1) e)) (Placed of_entry at end)
      (λ _. tt)
      (λ _. placed_on (in_entry i) of_field of_entry (λ x. refl) at end (read i B at end) (λ e. filling_at read B end turns (i + 1) e) (placed i at h) (ahead i at h) (λ e _ l. placed-filling turns (i + 1) e l))

placed-bytes : (at end n : ℕ) → at ≤ end → Placed of_field at end (bytes_at at end n)
placed-bytes at end n h = fit_both at n end (at + n) (Placed of_field at end) (λ _. tt) (λ _. (omega arith, h))

widen : (at stop end : ℕ) → stop ≤ end → (r : Result ℕ BlockFault) → Placed field_of at stop r → Placed field_of at end r
widen at stop end h (Ok e) p = tt
widen at stop end h (Err x) p = (p.0, omega (arith, p.1))

placed-tested : (at end e : ℕ) (m : List ℕ) → at ≤ e → e ≤ end → length m ≤ e - at → (flaw : List ℕ → Option FieldFault)
    → ((x : FieldFault) → flaw m ≡ Some x → x.place ≤ length m) → Placed field_of at end (tested at e (flaw m))
placed-tested at end e m h k l flaw inside = go (flaw m) inside
  where
    go : (o : Option FieldFault) → ((x : FieldFault) → o ≡ Some x → x.place ≤ length m) → Placed field_of at end (tested at e o)
    go None f = tt
    go (Some x) f = let p = f x refl in (omega arith, omega arith)

entry-placed : (entry : ℕ → Shape) (B : List ℕ) (end : ℕ) → ((i at : ℕ) → at ≤ end → Placed field_of at end (read_of (entry i) B at end))
    → (i at : ℕ) → at ≤ end → Placed of_field at end (entry_of (entry i) B at end)
entry-placed entry B end placed i at l = placed-turned field_of field_of of_field (λ x. refl) at end (read_of (entry i) B at end) (placed i at l)

pub shape-placed : (L : Shape) → TestsInside L → (B : List ℕ) (at end : ℕ) → at ≤ end → Placed field_of at end (read_of L B at end)
shape-placed (number width allowed cause next) t B at end h =
    fit_both at width end (le (part B at width))
    (λ r. Placed field_of at end (on Field r (λ v. cond (allowed v) (read_of (next v) B (at + width) end) (Err (Field (fault cause at))))))
    (λ fit.
    let v = le (part B at width) in
    cond_both (allowed v) (read_of (next v) B (at + width) end) (Err (Field (fault cause at))) (Placed field_of at end)
    (λ _. placed-later field_of at (at + width) end (omega arith) (read_of (next v) B (at + width) end) (shape-placed (next v) (t v) B (at + width) end fit))
    (λ _. (omega arith, h)))
    (λ _. (omega arith, h))
shape-placed (bytes n) t B at end h = placed-turned Field of_field field_of (λ x. refl) at end (bytes_at at end n) (placed-bytes at end n h)
shape-placed (counted n entry) t B at end h =
    placed-turned Entry of_entry field_of (λ x. refl) at end (counted_at (λ i. entry_of (entry i)) B end n 0 at)
    (placed-counted (λ i. entry_of (entry i)) B end (entry-ahead entry B end) (entry-placed entry B end (λ i p l. shape-placed (entry i) (t i) B p end l)) n 0 at h)
shape-placed (measured n entry) t B at end h =
    fit_both at n end (at + n) (λ r. Placed field_of at end (on Field r (λ stop. turned Entry (filling_at (λ i. entry_of (entry i)) B stop n 0 at))))
    (λ fit.
    let r = filling_at (λ i. entry_of (entry i)) B (at + n) n 0 at in
    widen at (at + n) end fit (turned Entry r) (placed-turned Entry of_entry field_of (λ x. refl) at (at + n) r
    (placed-filling (λ i. entry_of (entry i)) B (at + n) (entry-ahead entry B (at + n)) (entry-placed entry B (at + n) (λ i p l. shape-placed (entry i) (t i) B p (at + n) l)) n 0 at (omega arith))))
    (λ _. (omega arith, h))
shape-placed (also a b) t B at end h =
    placed_on (λ x. x) field_of field_of (λ x. refl) at end (read_of a B at end) (λ e. read_of b B e end) (shape-placed a t.0 B at end h) (shape-ahead a B at end h) (λ e _ l. shape-placed b t.1 B e end l)
shape-placed (sound a flaw) t B at end h = judged (read_of a B at end) (shape-placed a t.0 B at end h) (shape-ahead a B at end h)
  where
    judged : (r : Result ℕ BlockFault) → Placed field_of at end r → Ahead at end r → Placed field_of at end (on (λ x. x) r (λ e. tested at e (flaw (part B at (e - at)))))
    judged (Err x) p w = p
    judged (Ok e) p w = placed-tested at end e (part B at (e - at)) w.0 w.1 (rw length-take (omega arith)) flaw (t.1 (part B at (e - at)))
