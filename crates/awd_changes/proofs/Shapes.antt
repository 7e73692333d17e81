-- A number inside what a shape reads on which nothing else depends: which numbers may be laid over it.
use Rattle.std.proofs.Common.{◌≡◌, ◌⊎◌, inl, inr, ℕ, zero, suc, ◌+◌, ◌<◌, ◌≤◌, Bool, true, leb, cond, List, length, get_or, Ok, Err, sym, ap, ◌∙◌, subst, arith}
use Rattle.std.proofs.lemmas.Result.{IfOk-at_ok}
use Rattle.std.proofs.lemmas.Bool.{leb-true, le-leb, cond_both}
use Rattle.awd_source.specs.Bytes.{le, part}
use Rattle.awd_fault.specs.declared.Cause.{Cause}
use Rattle.awd_block_fault.specs.declared.BlockFault.TheVariants.{Field, Entry}
use Rattle.awd_block_fault.specs.Faults.{fault, short, in_entry, field_of, on, turned}
use Rattle.awd_block_fault.proofs.Passed.{on-ok, on-at, unturned, allowed-ok}
use Rattle.awd_format.specs.Runs.{Reading, counted_at}
use Rattle.awd_format.specs.Shapes.{Shape, number, bytes, counted, measured, also, sound, read_of, entry_of, Filled}
use Rattle.awd_format.proofs.Locality.{part-alike, shape-ahead, entry-ahead, ahead-counted}
use Rattle.awd_changes.proofs.Kept.{shape_kept}

-- one of n entries, the first of index i, is free as one says: its index, and the place that those before it are read to
abbrev pub FreeIn : (ℕ → ℕ → Type 0) → Reading → List ℕ → ℕ → ℕ → ℕ → ℕ → Type 0
FreeIn one read B end zero i at = ⊥
FreeIn one read B end (suc n) i at = one i at ⊎ ((e : ℕ) × (read i B at end ≡ Ok e) × FreeIn one read B end n (i + 1) e)

-- reading a shape from at on comes to a number of size bytes at q, of which just those are allowed that ok says, and nothing behind it
-- depends on its value
abbrev pub Free : Shape → List ℕ → ℕ → ℕ → ℕ → ℕ → (ℕ → Bool) → Type 0
Free (number width allowed cause next) B at end q size ok =
    ((q ≡ at) × (size ≡ width) × ((v : ℕ) → allowed v ≡ ok v) × ((u v : ℕ) → next u ≡ next v))
    ⊎ Free (next (le (part B at width))) B (at + width) end q size ok
Free (bytes n) B at end q size ok = ⊥
Free (counted n entry) B at end q size ok = FreeIn (λ i p. Free (entry i) B p end q size ok) (λ i. entry_of (entry i)) B end n 0 at
Free (measured n entry) B at end q size ok = ⊥
Free (also a b) B at end q size ok = Free a B at end q size ok ⊎ ((m : ℕ) × (read_of a B at end ≡ Ok m) × Free b B m end q size ok)
Free (sound a flaw) B at end q size ok = ⊥

-- a number, and what follows it
module _ (width : ℕ) (allowed : ℕ → Bool) (cause : Cause) (next : ℕ → Shape) (B : List ℕ) (at end e : ℕ) where
  abbrev v : ℕ
  v = le (part B at width)

  -- both are read: the number fits and is allowed, and what follows it is read from behind it
  abbrev NumberRead : Type 0
  NumberRead = (at + width ≤ end) × (allowed v ≡ true) × (read_of (next v) B (at + width) end ≡ Ok e)

  pub number_read : read_of (number width allowed cause next) B at end ≡ Ok e → NumberRead
  number_read =
      cond_both (leb (at + width) end) (Ok v) (Err (short at))
      (λ r. on Field r (λ n. cond (allowed n) (read_of (next n) B (at + width) end) (Err (Field (fault cause at)))) ≡ Ok e → NumberRead)
      (λ yes' is.
      let (true-is, rest) = allowed-ok (allowed v) (read_of (next v) B (at + width) end) (Field (fault cause at)) e is in
      (leb-true (at + width) end yes', true-is, rest))
      (λ no' is. absurd (cc is))

  read_number : NumberRead → read_of (number width allowed cause next) B at end ≡ Ok e
  read_number (fits, is, rest) = rw (le-leb (at + width) end fits, is) rest

-- what was read ends ahead, and in the holder
ahead_ok : (L : Shape) (B : List ℕ) (at end e : ℕ) → at ≤ end → read_of L B at end ≡ Ok e → (at ≤ e) × (e ≤ end)
ahead_ok L B at end e h is = IfOk-at_ok (λ e. (at ≤ e) × (e ≤ end)) is (shape-ahead L B at end h)

-- one shape after another
module _ (a d : Shape) (B : List ℕ) (at end e : ℕ) where
  -- the first is read up to m, and the second from there on
  abbrev BothRead : ℕ → Type 0
  BothRead m = (read_of a B at end ≡ Ok m) × (at ≤ m) × (m ≤ end) × (read_of d B m end ≡ Ok e)

  also_rest : at ≤ end → (m : ℕ) → read_of a B at end ≡ Ok m → read_of (also a d) B at end ≡ Ok e → BothRead m
  also_rest h m first is =
      let (low, high) = ahead_ok a B at end m h first in
      (first, low, high, sym (on-at (λ x. x) (λ m. read_of d B m end) (read_of a B at end) m first) ∙ is)

  also_read : at ≤ end → read_of (also a d) B at end ≡ Ok e → (m : ℕ) × BothRead m
  also_read h is =
      let (m, first, rest) = on-ok (λ x. x) (read_of a B at end) (λ m. read_of d B m end) e is in
      (m, also_rest h m first is)

  read_also : (m : ℕ) → read_of a B at end ≡ Ok m → read_of d B m end ≡ Ok e → read_of (also a d) B at end ≡ Ok e
  read_also m first rest = on-at (λ x. x) (λ m. read_of d B m end) (read_of a B at end) m first ∙ rest

-- how entries are read that shapes describe
abbrev run : (ℕ → Shape) → Reading
run entry = λ i. entry_of (entry i)

-- a run of entries, the first of index i
module _ (entry : ℕ → Shape) (B : List ℕ) (end : ℕ) where
  -- a run that was read ends ahead too
  run_ahead : (n i at e : ℕ) → at ≤ end → counted_at (run entry) B end n i at ≡ Ok e → at ≤ e
  run_ahead n i at e h is =
      (IfOk-at_ok (λ e. (at ≤ e) × (e ≤ end)) is (ahead-counted (run entry) B end (entry-ahead entry B end) n i at h)).0

  -- the first entry is read up to m, and the n others from there on
  abbrev RunRead : ℕ → ℕ → ℕ → ℕ → ℕ → Type 0
  RunRead n i at e m = (read_of (entry i) B at end ≡ Ok m) × (at ≤ m) × (m ≤ end) × (counted_at (run entry) B end n (i + 1) m ≡ Ok e)

  run_rest : (n i at e : ℕ) → at ≤ end → (m : ℕ)
      → run entry i B at end ≡ Ok m → counted_at (run entry) B end (suc n) i at ≡ Ok e → RunRead n i at e m
  run_rest n i at e h m entry-is is =
      let first = unturned field_of (read_of (entry i) B at end) m entry-is in
      let (low, high) = ahead_ok (entry i) B at end m h first in
      (first, low, high, sym (on-at (in_entry i) (λ m. counted_at (run entry) B end n (i + 1) m) (run entry i B at end) m entry-is) ∙ is)

  run_read : (n i at e : ℕ) → at ≤ end → counted_at (run entry) B end (suc n) i at ≡ Ok e → (m : ℕ) × RunRead n i at e m
  run_read n i at e h is =
      let (m, first, rest) = on-ok (in_entry i) (run entry i B at end) (λ m. counted_at (run entry) B end n (i + 1) m) e is in
      (m, run_rest n i at e h m first is)

  read_run : (n i at e m : ℕ) → read_of (entry i) B at end ≡ Ok m → counted_at (run entry) B end n (i + 1) m ≡ Ok e
      → counted_at (run entry) B end (suc n) i at ≡ Ok e
  read_run n i at e m first rest =
      on-at (in_entry i) (λ m. counted_at (run entry) B end n (i + 1) m) (run entry i B at end) m (ap (turned field_of) first) ∙ rest

-- a free number lies inside what was read, and is allowed
module _ (B : List ℕ) (end q size : ℕ) (ok : ℕ → Bool) where
  -- so it does from at up to e
  abbrev pub Inside : ℕ → ℕ → Type 0
  Inside at e = (at ≤ q) × (q + size ≤ e) × (ok (le (part B q size)) ≡ true)

  -- what is so of each entry, by its index
  abbrev pub EntryFree : (ℕ → Shape) → ℕ → ℕ → Type 0
  EntryFree entry i at = Free (entry i) B at end q size ok

  -- and of some of them
  abbrev pub RunFree : (ℕ → Shape) → ℕ → ℕ → ℕ → Type 0
  RunFree entry n i at = FreeIn (EntryFree entry) (run entry) B end n i at

  run_inside : (entry : ℕ → Shape) → ((i at e : ℕ) → at ≤ end → read_of (entry i) B at end ≡ Ok e → EntryFree entry i at → Inside at e)
      → (n i at e : ℕ) → at ≤ end → counted_at (run entry) B end n i at ≡ Ok e → RunFree entry n i at → Inside at e
  run_inside entry inside zero i at e h is f = absurd f
  run_inside entry inside (suc n) i at e h is (inl f) =
      let (m, (first, from, to, rest)) = run_read entry B end n i at e h is in
      let (low, high, good) = inside i at m h first f in
      let further = run_ahead entry B end n (i + 1) m e to rest in
      (low, omega arith, good)
  run_inside entry inside (suc n) i at e h is (inr (m, before, f)) =
      let (first, from, to, rest) = run_rest entry B end n i at e h m before is in
      let (low, high, good) = run_inside entry inside n (i + 1) m e to rest f in
      (omega arith, high, good)

  pub free_inside : (L : Shape) (at e : ℕ) → at ≤ end → read_of L B at end ≡ Ok e → Free L B at end q size ok → Inside at e
  free_inside (number width allowed cause next) at e h is (inl (place, wide, same, alike)) =
      let (fits, good, rest) = number_read width allowed cause next B at end e is in
      let v = le (part B at width) in
      let (from, to) = ahead_ok (next v) B (at + width) end e fits rest in
      let here : part B q size ≡ part B at width = ap (λ p. part B p size) place ∙ ap (part B at) wide in
      (omega arith, omega arith, ap (λ d. ok (le d)) here ∙ sym (same v) ∙ good)
  free_inside (number width allowed cause next) at e h is (inr f) =
      let (fits, was, rest) = number_read width allowed cause next B at end e is in
      let (low, high, good) = free_inside (next (le (part B at width))) (at + width) e fits rest f in
      (omega arith, high, good)
  free_inside (bytes n) at e h is f = absurd f
  free_inside (counted n entry) at e h is f =
      let counted-is = unturned Entry (counted_at (run entry) B end n 0 at) e is in
      run_inside entry (λ i. free_inside (entry i)) n 0 at e h counted-is f
  free_inside (measured n entry) at e h is f = absurd f
  free_inside (also a d) at e h is (inl f) =
      let (m, (first, from, to, rest)) = also_read a d B at end e h is in
      let (low, high, good) = free_inside a at m h first f in
      let further = ahead_ok d B m end e to rest in
      (low, omega arith, good)
  free_inside (also a d) at e h is (inr (m, before, f)) =
      let (first, from, to, rest) = also_rest a d B at end e h m before is in
      let (low, high, good) = free_inside d m e to rest f in
      (omega arith, high, good)
  free_inside (sound a flaw) at e h is f = absurd f

-- bytes that are the same but for so many of them at a place
abbrev pub ButAt : List ℕ → List ℕ → ℕ → ℕ → Type 0
ButAt B C q size = (i : ℕ) → (i < q) ⊎ (q + size ≤ i) → get_or B i 0 ≡ get_or C i 0

-- a part before or behind them is the same
pub part_same : (B C : List ℕ) (q size : ℕ) → length B ≡ length C → ButAt B C q size
    → (at n : ℕ) → (at + n ≤ q) ⊎ (q + size ≤ at) → at + n ≤ length B → part B at n ≡ part C at n
part_same B C q size long same at n (inl before) fits = part-alike B C at n fits (omega arith) (λ i l k. same i (inl (omega arith)))
part_same B C q size long same at n (inr behind) fits = part-alike B C at n fits (omega arith) (λ i l k. same i (inr (omega arith)))

-- bytes of one length, the same but for a free number
module _ (B C : List ℕ) (end q size : ℕ) (ok : ℕ → Bool) (b : end ≤ length B) (long : length B ≡ length C) (same : ButAt B C q size) where
  -- what lies before it is read as it was
  kept_before : (L : Shape) → Filled L → (at m : ℕ) → at ≤ end → m ≤ q → read_of L B at end ≡ Ok m → read_of L C at end ≡ Ok m
  kept_before L filled at m h low is = shape_kept L filled B C at end m h b (omega arith) is (λ i l k. same i (inl (omega arith)))

  -- and so is what lies behind it
  kept_behind : (L : Shape) → Filled L → (at m : ℕ) → at ≤ end → q + size ≤ at → read_of L B at end ≡ Ok m → read_of L C at end ≡ Ok m
  kept_behind L filled at m h high is = shape_kept L filled B C at end m h b (omega arith) is (λ i l k. same i (inr (omega arith)))

  run_behind : (entry : ℕ → Shape) → ((i : ℕ) → Filled (entry i)) → (n i at e : ℕ) → at ≤ end → q + size ≤ at
      → counted_at (run entry) B end n i at ≡ Ok e → counted_at (run entry) C end n i at ≡ Ok e
  run_behind entry filled zero i at e h high is = is
  run_behind entry filled (suc n) i at e h high is =
      let (m, (first, from, to, rest)) = run_read entry B end n i at e h is in
      let others = run_behind entry filled n (i + 1) m e to (omega arith) rest in
      read_run entry C end n i at e m (kept_behind (entry i) (filled i) at m h high first) others

  number_before : (at width : ℕ) → at + width ≤ q → at + width ≤ end → le (part B at width) ≡ le (part C at width)
  number_before at width low fits = ap le (part_same B C q size long same at width (inl low) (omega arith))

  -- a number that is free in the others of a run lies behind its first entry
  others_inside : (entry : ℕ → Shape) (n i at e : ℕ) → at ≤ end
      → counted_at (run entry) B end n i at ≡ Ok e → RunFree B end q size ok entry n i at → at ≤ q
  others_inside entry n i at e h is f = (run_inside B end q size ok entry (λ i. free_inside B end q size ok (entry i)) n i at e h is f).0

  run_kept : (entry : ℕ → Shape) → ((i : ℕ) → Filled (entry i))
      → ((i at e : ℕ) → at ≤ end → read_of (entry i) B at end ≡ Ok e → EntryFree B end q size ok entry i at → EntryFree C end q size ok entry i at)
      → (n i at e : ℕ) → at ≤ end → counted_at (run entry) B end n i at ≡ Ok e
      → RunFree B end q size ok entry n i at → RunFree C end q size ok entry n i at
  run_kept entry filled kept zero i at e h is f = absurd f
  run_kept entry filled kept (suc n) i at e h is (inl f) =
      let (m, (first, from, to, rest)) = run_read entry B end n i at e h is in
      inl (kept i at m h first f)
  run_kept entry filled kept (suc n) i at e h is (inr (m, before, f)) =
      let (first, from, to, rest) = run_rest entry B end n i at e h m before is in
      let low = others_inside entry n (i + 1) m e to rest f in
      let first-kept = ap (turned field_of) (kept_before (entry i) (filled i) at m h low first) in
      inr (m, first-kept, run_kept entry filled kept n (i + 1) m e to rest f)

  -- with any bytes there it is free as before
  pub free_kept : (L : Shape) → Filled L → (at e : ℕ) → at ≤ end
      → read_of L B at end ≡ Ok e → Free L B at end q size ok → Free L C at end q size ok
  free_kept (number width allowed cause next) filled at e h is (inl here) = inl here
  free_kept (number width allowed cause next) filled at e h is (inr f) =
      let (fits, was, rest) = number_read width allowed cause next B at end e is in
      let v = le (part B at width) in
      let (low, high, good) = free_inside B end q size ok (next v) (at + width) e fits rest f in
      let kept = free_kept (next v) (filled v) (at + width) e fits rest f in
      inr (subst (λ u. Free (next u) C (at + width) end q size ok) (number_before at width low fits) kept)
  free_kept (bytes n) filled at e h is f = absurd f
  free_kept (counted n entry) filled at e h is f =
      let counted-is = unturned Entry (counted_at (run entry) B end n 0 at) e is in
      run_kept entry (λ i. (filled i).1) (λ i. free_kept (entry i) (filled i).1) n 0 at e h counted-is f
  free_kept (measured n entry) filled at e h is f = absurd f
  free_kept (also a d) filled at e h is (inl f) =
      let (m, (first, from, to, rest)) = also_read a d B at end e h is in
      inl (free_kept a filled.0 at m h first f)
  free_kept (also a d) filled at e h is (inr (m, before, f)) =
      let (first, from, to, rest) = also_rest a d B at end e h m before is in
      let (low, high, good) = free_inside B end q size ok d m e to rest f in
      inr (m, kept_before a filled.0 at m h low first, free_kept d filled.1 m e to rest f)
  free_kept (sound a flaw) filled at e h is f = absurd f

  -- an allowed number is there
  module _ (good : ok (le (part C q size)) ≡ true) where
    run_changed : (entry : ℕ → Shape) → ((i : ℕ) → Filled (entry i))
        → ((i at e : ℕ) → at ≤ end → read_of (entry i) B at end ≡ Ok e → EntryFree B end q size ok entry i at → read_of (entry i) C at end ≡ Ok e)
        → (n i at e : ℕ) → at ≤ end → counted_at (run entry) B end n i at ≡ Ok e → RunFree B end q size ok entry n i at
        → counted_at (run entry) C end n i at ≡ Ok e
    run_changed entry filled changed zero i at e h is f = absurd f
    run_changed entry filled changed (suc n) i at e h is (inl f) =
        let (m, (first, from, to, rest)) = run_read entry B end n i at e h is in
        let (low, high, was) = free_inside B end q size ok (entry i) at m h first f in
        read_run entry C end n i at e m (changed i at m h first f) (run_behind entry filled n (i + 1) m e to high rest)
    run_changed entry filled changed (suc n) i at e h is (inr (m, before, f)) =
        let (first, from, to, rest) = run_rest entry B end n i at e h m before is in
        let low = others_inside entry n (i + 1) m e to rest f in
        let others = run_changed entry filled changed n (i + 1) m e to rest f in
        read_run entry C end n i at e m (kept_before (entry i) (filled i) at m h low first) others

    -- then the shape is read as before
    pub free_changed : (L : Shape) → Filled L → (at e : ℕ) → at ≤ end
        → read_of L B at end ≡ Ok e → Free L B at end q size ok → read_of L C at end ≡ Ok e
    free_changed (number width allowed cause next) filled at e h is (inl (place, wide, allow, alike)) =
        let (fits, was, rest) = number_read width allowed cause next B at end e is in
        let v = le (part B at width) in
        let w = le (part C at width) in
        let here : part C q size ≡ part C at width = ap (λ p. part C p size) place ∙ ap (part C at) wide in
        let follows = subst (λ L. read_of L B (at + width) end ≡ Ok e) (alike v w) rest in
        read_number width allowed cause next C at end e
        (fits, allow w ∙ sym (ap (λ d. ok (le d)) here) ∙ good, kept_behind (next w) (filled w) (at + width) e fits (omega arith) follows)
    free_changed (number width allowed cause next) filled at e h is (inr f) =
        let (fits, was, rest) = number_read width allowed cause next B at end e is in
        let v = le (part B at width) in
        let (low, high, fine) = free_inside B end q size ok (next v) (at + width) e fits rest f in
        let changed = free_changed (next v) (filled v) (at + width) e fits rest f in
        let value = number_before at width low fits in
        read_number width allowed cause next C at end e
        (fits, subst (λ u. allowed u ≡ true) value was, subst (λ u. read_of (next u) C (at + width) end ≡ Ok e) value changed)
    free_changed (bytes n) filled at e h is f = absurd f
    free_changed (counted n entry) filled at e h is f =
        let counted-is = unturned Entry (counted_at (run entry) B end n 0 at) e is in
        ap (turned Entry) (run_changed entry (λ i. (filled i).1) (λ i. free_changed (entry i) (filled i).1) n 0 at e h counted-is f)
    free_changed (measured n entry) filled at e h is f = absurd f
    free_changed (also a d) filled at e h is (inl f) =
        let (m, (first, from, to, rest)) = also_read a d B at end e h is in
        let (low, high, was) = free_inside B end q size ok a at m h first f in
        read_also a d C at end e m (free_changed a filled.0 at m h first f) (kept_behind d filled.1 m e to high rest)
    free_changed (also a d) filled at e h is (inr (m, before, f)) =
        let (first, from, to, rest) = also_rest a d B at end e h m before is in
        let (low, high, was) = free_inside B end q size ok d m e to rest f in
        read_also a d C at end e m (kept_before a filled.0 at m h low first) (free_changed d filled.1 m e to rest f)
    free_changed (sound a flaw) filled at e h is f = absurd f
