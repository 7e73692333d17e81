-- Reading only goes forward, stays in its holder, and depends on no byte outside it.
use Rattle.std.proofs.Common.{◌≡◌, ℕ, zero, suc, ◌+◌, ◌-◌, ◌<◌, ◌≤◌, Bool, true, false, cond, eqb, leb, List, length, get_or, IfOk, Some, None, Ok, Err, Option, Result, sym, refl, ap, ◌∙◌, subst, arith}
use Rattle.std.proofs.lemmas.List.{ext_get_or}
use Rattle.std.proofs.lemmas.Result.{IfOk-weaker}
use Rattle.std.proofs.lemmas.Bool.{cond_both, leb-true}
use Rattle.awd_source.specs.Bytes.{le, part}
use Rattle.awd_block_fault.specs.declared.FieldFault.{FieldFault}
use Rattle.awd_block_fault.specs.declared.BlockFault.{BlockFault}
use Rattle.awd_block_fault.specs.declared.BlockFault.TheVariants.{Field, Entry}
use Rattle.awd_block_fault.specs.Faults.{fault, short, in_entry, field_of, on, turned}
use Rattle.awd_source.specs.Fields.{bytes_at}
use Rattle.awd_format.specs.Runs.{Reading, counted_at, filling_at}
use Rattle.awd_format.specs.Shapes.{Shape, number, bytes, counted, measured, also, sound, tested, read_of, entry_of}
use Rattle.awd_source.proofs.Parts.{length_part, part_byte}
use Rattle.awd_format.proofs.Standing.{fit_both}

-- a place read from at on lies there or further, and in the holder
abbrev pub Ahead : {F : Type 0} → ℕ → ℕ → Result ℕ F → Type 0
Ahead at end r = IfOk r (λ e. (at ≤ e) × (e ≤ end))

ahead-turned : {F G : Type 0} (turn : F → G) (at end : ℕ) (r : Result ℕ F) → Ahead at end r → Ahead at end (turned turn r)
ahead-turned turn at end (Ok e) w = w
ahead-turned turn at end (Err x) w = tt

ahead-on : {F G : Type 0} (turn : F → G) (at end : ℕ) (r : Result ℕ F) (f : ℕ → Result ℕ G) → Ahead at end r → ((e : ℕ) → at ≤ e → e ≤ end → Ahead e end (f e)) → Ahead at end (on turn r f)
ahead-on turn at end (Err x) f w next = tt
ahead-on turn at end (Ok e) f w next =
    IfOk-weaker (f e) _ _ (λ p q. (omega (arith, q.0, w.0), q.1)) (next e w.0 w.1)

ahead-bytes : (at end n : ℕ) → Ahead at end (bytes_at at end n)
ahead-bytes at end n =
    fit_both at n end (at + n) (Ahead at end) (λ fit. (omega arith, omega arith)) (λ _. tt)

module _ (read : Reading) (B : List ℕ) (end : ℕ) (ahead : (i at : ℕ) → at ≤ end → Ahead at end (read i B at end)) where
  pub ahead-counted : (n i at : ℕ) → at ≤ end → Ahead at end (counted_at read B end n i at)
  ahead-counted zero i at h = (omega arith, omega arith)
  ahead-counted (suc n) i at h =
      ahead-on (in_entry i) at end (read i B at end) (λ e. counted_at read B end n (i + 1) e) (ahead i at h) (λ e _ l. ahead-counted n (i + 1) e l)

  ahead-filling : (turns i at : ℕ) → at ≤ end → Ahead at end (filling_at read B end turns i at)
  ahead-filling zero i at h = (omega arith, omega arith)
  ahead-filling (suc turns) i at h =
      cond_both (eqb at end) (Ok at) (on (in_entry i) (read i B at end) (λ e. filling_at read B end turns (i + 1) e)) (Ahead at end)
      (λ _. (omega arith, omega arith))
      (λ _. ahead-on (in_entry i) at end (read i B at end) (λ e. filling_at read B end turns (i + 1) e) (ahead i at h) (λ e _ l. ahead-filling turns (i + 1) e l))

ahead-tested : (at end e : ℕ) → e ≤ end → (o : Option FieldFault) → Ahead e end (tested at e o)
ahead-tested at end e h None = (omega arith, h)
ahead-tested at end e h (Some x) = tt

pub shape-ahead : (L : Shape) (B : List ℕ) (at end : ℕ) → at ≤ end → Ahead at end (read_of L B at end)
shape-ahead (number width allowed cause next) B at end h =
    fit_both at width end (le (part B at width))
    (λ r. Ahead at end (on Field r (λ v. cond (allowed v) (read_of (next v) B (at + width) end) (Err (Field (fault cause at))))))
    (λ fit.
    let v = le (part B at width) in
    cond_both (allowed v) (read_of (next v) B (at + width) end) (Err (Field (fault cause at))) (Ahead at end)
    (λ _. IfOk-weaker (read_of (next v) B (at + width) end) _ _ (λ p q. (omega (arith, q.0), q.1))
    (shape-ahead (next v) B (at + width) end fit))
    (λ _. tt))
    (λ _. tt)
shape-ahead (bytes n) B at end h = ahead-turned Field at end (bytes_at at end n) (ahead-bytes at end n)
shape-ahead (counted n entry) B at end h =
    ahead-turned Entry at end (counted_at (λ i. entry_of (entry i)) B end n 0 at)
    (ahead-counted (λ i. entry_of (entry i)) B end (λ i p l. ahead-turned field_of p end (read_of (entry i) B p end) (shape-ahead (entry i) B p end l)) n 0 at h)
shape-ahead (measured n entry) B at end h =
    fit_both at n end (at + n) (λ r. Ahead at end (on Field r (λ stop. turned Entry (filling_at (λ i. entry_of (entry i)) B stop n 0 at))))
    (λ fit.
    let inside = ahead-filling (λ i. entry_of (entry i)) B (at + n) (λ i p l. ahead-turned field_of p (at + n) (read_of (entry i) B p (at + n)) (shape-ahead (entry i) B p (at + n) l)) n 0 at (omega arith) in
    let r = turned Entry (filling_at (λ i. entry_of (entry i)) B (at + n) n 0 at) in
    IfOk-weaker r _ _ (λ p q. (q.0, omega (arith, q.1)))
    (ahead-turned Entry at (at + n) (filling_at (λ i. entry_of (entry i)) B (at + n) n 0 at) inside))
    (λ _. tt)
shape-ahead (also a b) B at end h =
    ahead-on (λ x. x) at end (read_of a B at end) (λ e. read_of b B e end) (shape-ahead a B at end h) (λ e _ l. shape-ahead b B e end l)
shape-ahead (sound a flaw) B at end h =
    ahead-on (λ x. x) at end (read_of a B at end) (λ e. tested at e (flaw (part B at (e - at)))) (shape-ahead a B at end h)
    (λ e _ l. ahead-tested at end e l (flaw (part B at (e - at))))

pub entry-ahead : (entry : ℕ → Shape) (B : List ℕ) (end i at : ℕ) → at ≤ end → Ahead at end (entry_of (entry i) B at end)
entry-ahead entry B end i at l = ahead-turned field_of at end (read_of (entry i) B at end) (shape-ahead (entry i) B at end l)

on_same : {F G : Type 0} (turn : F → G) (r : Result ℕ F) (f g : ℕ → Result ℕ G) → IfOk r (λ e. f e ≡ g e) → on turn r f ≡ on turn r g
on_same turn (Ok e) f g w = w
on_same turn (Err x) f g w = refl

-- two results that go on alike
pub on_alike : {F G : Type 0} (turn : F → G) (r q : Result ℕ F) (f g : ℕ → Result ℕ G) → r ≡ q → IfOk r (λ e. f e ≡ g e) → on turn r f ≡ on turn q g
on_alike turn r q f g same next = subst (λ q. on turn r f ≡ on turn q g) same (on_same turn r f g next)

-- two fields that fit or not alike, and go on alike
pub fit-alike : (b : Bool) (u v : ℕ) (x : FieldFault) (f g : ℕ → Result ℕ BlockFault) → (b ≡ true → f u ≡ g v) → on Field (cond b (Ok u) (Err x)) f ≡ on Field (cond b (Ok v) (Err x)) g
fit-alike true u v x f g next = next refl
fit-alike false u v x f g next = refl

module _ (B C : List ℕ) where
  -- the same bytes from a place to another
  abbrev pub Alike : ℕ → ℕ → Type 0
  Alike at end = (i : ℕ) → at ≤ i → i < end → get_or B i 0 ≡ get_or C i 0

  pub inner : (at end p q : ℕ) → Alike at end → at ≤ p → q ≤ end → Alike p q
  inner at end p q same l h i k j = same i (omega arith) (omega arith)

  pub part-alike : (at n : ℕ) → at + n ≤ length B → at + n ≤ length C → Alike at (at + n) → part B at n ≡ part C at n
  part-alike at n b c same =
      let l = length_part B at n b in
      let k = length_part C at n c in
      ext_get_or 0 (part B at n) (part C at n) (omega arith) (λ i h.
      part_byte B at n i (omega arith) ∙ same (at + i) (omega arith) (omega arith) ∙ sym (part_byte C at n i (omega arith)))

  pub alike_from : (at end : ℕ) → end ≤ length B → end ≤ length C → part B at (end - at) ≡ part C at (end - at) → Alike at end
  alike_from at end b c same i l h =
      let j : at + (i - at) ≡ i = omega arith in
      let k : i - at < end - at = omega arith in
      rw j at (sym (part_byte B at (end - at) (i - at) k) ∙ ap (λ x. get_or x (i - at) 0) same ∙ part_byte C at (end - at) (i - at) k)

  module _ (read : Reading) (end : ℕ)
      (ahead : (i at : ℕ) → at ≤ end → Ahead at end (read i B at end))
      (alike : (i at : ℕ) → at ≤ end → Alike at end → read i B at end ≡ read i C at end) where
    counted-alike : (n i at : ℕ) → at ≤ end → Alike at end → counted_at read B end n i at ≡ counted_at read C end n i at
    counted-alike zero i at h same = refl
    counted-alike (suc n) i at h same =
        on_alike (in_entry i) (read i B at end) (read i C at end) (λ e. counted_at read B end n (i + 1) e) (λ e. counted_at read C end n (i + 1) e) (alike i at h same)
        (IfOk-weaker (read i B at end) _ _
        (λ e w. counted-alike n (i + 1) e w.1 (inner at end e end same w.0 (omega arith))) (ahead i at h))

    filling-alike : (turns i at : ℕ) → at ≤ end → Alike at end → filling_at read B end turns i at ≡ filling_at read C end turns i at
    filling-alike zero i at h same = refl
    filling-alike (suc turns) i at h same =
        ap (cond (eqb at end) (Ok at))
        (on_alike (in_entry i) (read i B at end) (read i C at end) (λ e. filling_at read B end turns (i + 1) e) (λ e. filling_at read C end turns (i + 1) e) (alike i at h same)
        (IfOk-weaker (read i B at end) _ _
        (λ e w. filling-alike turns (i + 1) e w.1 (inner at end e end same w.0 (omega arith))) (ahead i at h)))

  shape-alike : (L : Shape) (at end : ℕ) → at ≤ end → end ≤ length B → end ≤ length C → Alike at end → read_of L B at end ≡ read_of L C at end
  shape-alike (number width allowed cause next) at end h b c same =
      let f = λ (D : List ℕ) (v : ℕ). cond (allowed v) (read_of (next v) D (at + width) end) (Err (Field (fault cause at))) in
      fit-alike (leb (at + width) end) (le (part B at width)) (le (part C at width)) (short at) (f B) (f C) (λ yes.
      let fit = leb-true (at + width) end yes in
      let v = le (part C at width) in
      let one : le (part B at width) ≡ v = ap le (part-alike at width (omega arith) (omega arith) (inner at end at (at + width) same (omega arith) fit)) in
      ap (f B) one
      ∙ ap (λ r. cond (allowed v) r (Err (Field (fault cause at)))) (shape-alike (next v) (at + width) end fit b c (inner at end (at + width) end same (omega arith) (omega arith))))
  shape-alike (bytes n) at end h b c same = refl
  shape-alike (counted n entry) at end h b c same =
      ap (turned Entry) (counted-alike (λ i. entry_of (entry i)) end (entry-ahead entry B end)
      (λ i p l s. ap (turned field_of) (shape-alike (entry i) p end l b c s)) n 0 at h same)
  shape-alike (measured n entry) at end h b c same =
      fit-alike (leb (at + n) end) (at + n) (at + n) (short at)
      (λ stop. turned Entry (filling_at (λ i. entry_of (entry i)) B stop n 0 at)) (λ stop. turned Entry (filling_at (λ i. entry_of (entry i)) C stop n 0 at)) (λ yes.
      let fit = leb-true (at + n) end yes in
      let b' : at + n ≤ length B = omega arith in
      let c' : at + n ≤ length C = omega arith in
      ap (turned Entry) (filling-alike (λ i. entry_of (entry i)) (at + n) (entry-ahead entry B (at + n))
      (λ i p l s. ap (turned field_of) (shape-alike (entry i) p (at + n) l b' c' s)) n 0 at (omega arith) (inner at end at (at + n) same (omega arith) fit)))
  shape-alike (also a d) at end h b c same =
      on_alike (λ x. x) (read_of a B at end) (read_of a C at end) (λ e. read_of d B e end) (λ e. read_of d C e end) (shape-alike a at end h b c same)
      (IfOk-weaker (read_of a B at end) _ _
      (λ e w. shape-alike d e end w.1 b c (inner at end e end same w.0 (omega arith))) (shape-ahead a B at end h))
  shape-alike (sound a flaw) at end h b c same =
      on_alike (λ x. x) (read_of a B at end) (read_of a C at end) (λ e. tested at e (flaw (part B at (e - at)))) (λ e. tested at e (flaw (part C at (e - at)))) (shape-alike a at end h b c same)
      (IfOk-weaker (read_of a B at end) _ _
      (λ e w. let n : at + (e - at) ≡ e = omega (arith, w.0) in
      ap (λ x. tested at e (flaw x)) (part-alike at (e - at) (omega (arith, w.1)) (omega (arith, w.1)) (inner at end at (at + (e - at)) same (omega arith) (omega (arith, w.1)))))
      (shape-ahead a B at end h))

pub shape-local : (L : Shape) (B C : List ℕ) (at end : ℕ) → at ≤ end → end ≤ length B → end ≤ length C → part B at (end - at) ≡ part C at (end - at) → read_of L B at end ≡ read_of L C at end
shape-local L B C at end h b c same = shape-alike B C L at end h b c (alike_from B C at end b c same)
