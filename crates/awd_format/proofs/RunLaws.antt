-- What runs read: exactly the members that stand there, or the fault of the first entry that is none.
use Rattle.std.proofs.Common.{◌≡◌, ℕ, zero, suc, ◌+◌, ◌-◌, ◌<◌, ◌≤◌, eqb, List, [], ◌∷◌, ◌++◌, length, Ok, Err, Result, sym, refl, ap, ◌∙◌, subst, add-zero, zero-add, arith, length-append}
use Rattle.std.proofs.lemmas.Bool.{cond_both, cond-false, ne_eqb, eqb-true, eqb-false}
use Rattle.awd_block_fault.specs.declared.FieldFault.{FieldFault}
use Rattle.awd_block_fault.specs.declared.EntryFault.{EntryFault}
use Rattle.awd_block_fault.specs.declared.BlockFault.{BlockFault}
use Rattle.awd_block_fault.specs.declared.BlockFault.TheVariants.{Field, Entry}
use Rattle.awd_block_fault.specs.Faults.{in_entry, on, turned}
use Rattle.awd_format.specs.Runs.{Reading, counted_at, filling_at, measured_at, KindLaw, CountedFault, MeasuredFault}
use Rattle.awd_format.specs.Sets.{Stands, NoneBegins, Reads, Then, Members, in_row, Counted, Measured}
use Rattle.awd_format.proofs.Standing.{fit_both, stands-none, stands-more, stands-first, stands-rest, stands_one}
use Rattle.awd_format.proofs.SetLaws.{counted_none, counted-more, counted-first, measured-none, measured-more, measured-first}

module _ (B : List ℕ) (at end : ℕ) where
  pub reads_turned : {F G : Type 0} (turn : F → G) (P : List ℕ → Type 0) (r : Result ℕ F) → Reads P B at end r → Reads P B at end (turned turn r)
  reads_turned turn P (Ok e) w = w
  reads_turned turn P (Err x) w = w

  -- what is read behind a member
  pub reads_more : {G : Type 0} (P : List ℕ → Type 0) (Q : List ℕ → List ℕ → Type 0) → NoneBegins P → (m : List ℕ) → P m → Stands B at end m
      → (r : Result ℕ G) → Reads (Q m) B (at + length m) end r → Reads (Then P Q) B at end r
  reads_more P Q free m p s (Ok e) (t, is, q, st) =
      (m ++ t, omega (arith, is, length-append m t), (m, t, refl, p, q), stands-more B at end m t s st)
  reads_more P Q free m p s (Err x) none =
      λ bs w st.
      let s' : Stands B at end (w.0 ++ w.1) = subst (Stands B at end) w.2 st in
      let first = stands-first B at end w.0 w.1 s' in
      let same : w.0 ≡ m = stands_one P free B at end w.0 m w.3 p first s in
      none w.1 (subst (λ x. Q x w.1) same w.4) (subst (λ x. Stands B (at + length x) end w.1) same (stands-rest B at end w.0 w.1 s'))

  pub reads_then : {F G : Type 0} (turn : F → G) (P : List ℕ → Type 0) (Q : List ℕ → List ℕ → Type 0) → NoneBegins P
      → (r : Result ℕ F) (f : ℕ → Result ℕ G) → Reads P B at end r
      → ((m : List ℕ) → P m → Stands B at end m → Reads (Q m) B (at + length m) end (f (at + length m)))
      → Reads (Then P Q) B at end (on turn r f)
  reads_then turn P Q free (Ok e) f (m, is, p, s) next =
      subst (λ x. Reads (Then P Q) B at end (f x)) (sym is) (reads_more P Q free m p s (f (at + length m)) (next m p s))
  reads_then turn P Q free (Err x) f none next =
      λ bs w st. none w.0 w.3 (stands-first B at end w.0 w.1 (subst (Stands B at end) w.2 st))

  pub reads-like : {G : Type 0} (P Q : List ℕ → Type 0) → ((m : List ℕ) → Stands B at end m → P m → Q m) → ((m : List ℕ) → Stands B at end m → Q m → P m)
      → (r : Result ℕ G) → Reads P B at end r → Reads Q B at end r
  reads-like P Q to fro (Ok e) (m, is, p, s) = (m, is, to m s p, s)
  reads-like P Q to fro (Err x) none = λ m q s. none m (fro m s q) s

  -- where a member stands, reading succeeds behind it
  pub reads-member : {F : Type 0} (P : List ℕ → Type 0) → NoneBegins P → (r : Result ℕ F) → Reads P B at end r → (m : List ℕ) → P m → Stands B at end m → r ≡ Ok (at + length m)
  reads-member P free (Ok e) (n, is, q, u) m p s = ap Ok (is ∙ ap (λ x. at + length x) (stands_one P free B at end n m q p u s))
  reads-member P free (Err x) none m p s = absurd (none m p s)

module _ (read : Reading) (M : ℕ → List ℕ → Type 0) (k : KindLaw read M) (B : List ℕ) (end : ℕ) (h : end ≤ length B) where
  pub counted-reads : (n i at : ℕ) → at ≤ end → Reads (Counted M i n) B at end (counted_at read B end n i at)
  counted-reads zero i at le = ([], sym (add-zero at), counted_none M i, stands-none B at end le)
  counted-reads (suc n) i at le =
      reads-like B at end (Then (M i) (λ _. Counted M (i + 1) n)) (Counted M i (suc n))
      (λ bs s w. counted-more M i n bs w.0 w.1 w.2 w.3 w.4)
      (λ bs s w. counted-first M i n bs w)
      (counted_at read B end (suc n) i at)
      (reads_then B at end (in_entry i) (M i) (λ _. Counted M (i + 1) n) (k.prefix_free i) (read i B at end)
      (λ e. counted_at read B end n (i + 1) e) (k.exact i B at end le h)
      (λ m p s. counted-reads n (i + 1) (at + length m) s.fits))

  some_byte : (i : ℕ) (m : List ℕ) → M i m → 0 < length m
  some_byte i [] p = absurd (k.nonempty i p)
  some_byte i (b ∷ m) p = omega arith

  filling-end : (i at : ℕ) → at ≡ end → Reads {F = EntryFault} (Measured M i (end - at)) B at end (Ok at)
  filling-end i at is =
      let z : end - at ≡ 0 = omega arith in
      ([], sym (add-zero at), subst (λ n. Measured M i n []) (sym z) (measured-none M i), stands-none B at end (omega arith))

  filling-to : (i at : ℕ) (bs : List ℕ) → Stands B at end bs → Then (M i) (λ m. Measured M (i + 1) (end - (at + length m))) bs → Measured M i (end - at) bs
  filling-to i at bs s (m, t, is, p, q) =
      let n : length m + (end - (at + length m)) ≡ end - at = omega (arith, s.fits, ap length is, length-append m t) in
      subst (λ x. Measured M i x bs) n (measured-more M i (end - (at + length m)) bs m t is p q)

  filling-fro : (i at : ℕ) (bs : List ℕ) → at < end → Measured M i (end - at) bs → Then (M i) (λ m. Measured M (i + 1) (end - (at + length m))) bs
  filling-fro i at bs lt w =
      let f = measured-first M i (end - at) bs (omega arith) w in
      let n : end - at - length f.0 ≡ end - (at + length f.0) = omega arith in
      (f.0, f.1, f.2, f.3, subst (λ x. Measured M (i + 1) x f.1) n f.4)

  pub filling-reads : (turns i at : ℕ) → at ≤ end → end - at ≤ turns → Reads (Measured M i (end - at)) B at end (filling_at read B end turns i at)
  filling-reads zero i at le enough = filling-end i at (omega arith)
  filling-reads (suc turns) i at le enough =
      cond_both (eqb at end) (Ok at) (on (in_entry i) (read i B at end) (λ e. filling_at read B end turns (i + 1) e)) (Reads (Measured M i (end - at)) B at end)
      (λ is. filling-end i at (eqb-true at end is))
      (λ isnt.
      let ne = eqb-false at end isnt in
      let lt : at < end = omega arith in
      reads-like B at end (Then (M i) (λ m. Measured M (i + 1) (end - (at + length m)))) (Measured M i (end - at))
      (λ bs s w. filling-to i at bs s w)
      (λ bs s w. filling-fro i at bs lt w)
      (on (in_entry i) (read i B at end) (λ e. filling_at read B end turns (i + 1) e))
      (reads_then B at end (in_entry i) (M i) (λ m. Measured M (i + 1) (end - (at + length m))) (k.prefix_free i) (read i B at end)
      (λ e. filling_at read B end turns (i + 1) e) (k.exact i B at end le h)
      (λ m p s. filling-reads turns (i + 1) (at + length m) s.fits (omega (arith, some_byte i m p)))))

  -- a fault is that of an entry j further on, all before it members, at an index and a place where the run goes on
  abbrev pub Later : (ℕ → ℕ → Type 0) → ℕ → ℕ → Result ℕ EntryFault → Type 0
  Later more i at (Ok e) = Unit {0}
  Later more i at (Err x) =
      (j : ℕ) × (m : List ℕ) × (x.index ≡ i + j) × Counted M i j m × Stands B at end m × (read x.index B (at + length m) end ≡ Err x.field) × more x.index (at + length m)

  later-on : (more : ℕ → ℕ → Type 0) (i at : ℕ) → at ≤ end → more i at → (r : Result ℕ FieldFault) → read i B at end ≡ r → Reads (M i) B at end r → (f : ℕ → Result ℕ EntryFault)
      → ((e : ℕ) → e ≤ end → Later more (i + 1) e (f e)) → Later more i at (on (in_entry i) r f)
  later-on more i at le go (Err x) is w f next =
      (0, [], sym (add-zero i), counted_none M i, stands-none B at end le, ap (λ a. read i B a end) (add-zero at) ∙ is, subst (more i) (sym (add-zero at)) go)
  later-on more i at le go (Ok e) is (m, e-is, p, s) f next = further (f e) (next e (omega (arith, e-is, s.fits)))
    where
      further : (q : Result ℕ EntryFault) → Later more (i + 1) e q → Later more i at q
      further (Ok a) u = tt
      further (Err x) (j, t, ix, c, st, err, on') =
          let place : at + length (m ++ t) ≡ e + length t = omega (arith, e-is, length-append m t) in (
            suc j,
            m ++ t,
            omega (arith, ix),
            counted-more M i j (m ++ t) m t refl p c,
            stands-more B at end m t s (subst (λ a. Stands B a end t) e-is st),
            ap (λ a. read x.index B a end) place ∙ err,
            subst (more x.index) (sym place) on',
          )

  -- of so many entries, one of an index below their number
  pub counted-later : (all n i at : ℕ) → i + n ≤ all → at ≤ end → Later (λ j _. j < all) i at (counted_at read B end n i at)
  counted-later all zero i at few le = tt
  counted-later all (suc n) i at few le =
      later-on (λ j _. j < all) i at le (omega arith) (read i B at end) refl (k.exact i B at end le h) (λ e. counted_at read B end n (i + 1) e)
      (λ e l. counted-later all n (i + 1) e (omega arith) l)

  -- of entries as far as an end, one that begins before it
  pub filling-later : (turns i at : ℕ) → at ≤ end → Later (λ _ p. p < end) i at (filling_at read B end turns i at)
  filling-later zero i at le = tt
  filling-later (suc turns) i at le =
      cond_both (eqb at end) (Ok at) (on (in_entry i) (read i B at end) (λ e. filling_at read B end turns (i + 1) e)) (Later (λ _ p. p < end) i at)
      (λ _. tt)
      (λ isnt.
      let ne = eqb-false at end isnt in
      later-on (λ _ p. p < end) i at le (omega arith) (read i B at end) refl (k.exact i B at end le h) (λ e. filling_at read B end turns (i + 1) e) (λ e l. filling-later turns (i + 1) e l))

  -- conversely, the fault of an entry, all before it members, is that of the run
  here : (i at j p : ℕ) → j ≡ i → p ≡ at → (y : FieldFault) → read j B p end ≡ Err y → (f : ℕ → Result ℕ EntryFault) → on (in_entry i) (read i B at end) f ≡ Err (in_entry j y)
  here i at j p ij pat y err f =
      let e : read i B at end ≡ Err y = cc in
      ap (λ r. on (in_entry i) r f) e ∙ ap (λ a. Err (in_entry a y)) (sym ij)

  past : (i at : ℕ) (m : List ℕ) → M i m → Stands B at end m → (f : ℕ → Result ℕ EntryFault) → on (in_entry i) (read i B at end) f ≡ f (at + length m)
  past i at m p s f =
      let le : at ≤ end = omega (arith, s.fits) in
      ap (λ r. on (in_entry i) r f) (reads-member B at end (M i) (k.prefix_free i) (read i B at end) (k.exact i B at end le h) m p s)

  counted-reaches : (n i at : ℕ) (ms : List (List ℕ)) → Members M i ms → Stands B at end (in_row ms) → length ms < n → (j p : ℕ) → j ≡ i + length ms → p ≡ at + length (in_row ms)
      → (y : FieldFault) → read j B p end ≡ Err y → counted_at read B end n i at ≡ Err (in_entry j y)
  counted-reaches zero i at ms ps s few j p ij pat y err = absurd (omega arith)
  counted-reaches (suc n) i at [] ps s few j p ij pat y err = here i at j p (omega arith) (omega arith) y err (λ e. counted_at read B end n (i + 1) e)
  counted-reaches (suc n) i at (m ∷ ms) ps s few j p ij pat y err =
      past i at m ps.0 (stands-first B at end m (in_row ms) s) (λ e. counted_at read B end n (i + 1) e)
      ∙ counted-reaches n (i + 1) (at + length m) ms ps.1 (stands-rest B at end m (in_row ms) s) (omega arith) j p (omega arith) (omega (arith, length-append m (in_row ms))) y err

  goes_on : (turns i at : ℕ) → at < end → filling_at read B end (suc turns) i at ≡ on (in_entry i) (read i B at end) (λ e. filling_at read B end turns (i + 1) e)
  goes_on turns i at lt = cond-false (eqb at end) (Ok at) (on (in_entry i) (read i B at end) (λ e. filling_at read B end turns (i + 1) e)) (ne_eqb at end (λ is. omega arith))

  filling-reaches : (turns i at : ℕ) (ms : List (List ℕ)) → Members M i ms → Stands B at end (in_row ms) → end - at ≤ turns → (j p : ℕ) → p < end → j ≡ i + length ms → p ≡ at + length (in_row ms)
      → (y : FieldFault) → read j B p end ≡ Err y → filling_at read B end turns i at ≡ Err (in_entry j y)
  filling-reaches zero i at ms ps s enough j p lt ij pat y err = absurd (omega arith)
  filling-reaches (suc turns) i at [] ps s enough j p lt ij pat y err =
      goes_on turns i at (omega arith) ∙ here i at j p (omega arith) (omega arith) y err (λ e. filling_at read B end turns (i + 1) e)
  filling-reaches (suc turns) i at (m ∷ ms) ps s enough j p lt ij pat y err =
      goes_on turns i at (omega arith) ∙ past i at m ps.0 (stands-first B at end m (in_row ms) s) (λ e. filling_at read B end turns (i + 1) e)
      ∙ filling-reaches turns (i + 1) (at + length m) ms ps.1 (stands-rest B at end m (in_row ms) s) (omega (arith, some_byte i m ps.0)) j p lt (omega arith) (omega (arith, length-append m (in_row ms))) y err

  pub counted-at-fault : (n at : ℕ) (m : List ℕ) (i : ℕ) → Counted M 0 i m → Stands B at end m → i < n → (y : FieldFault) → read i B (at + length m) end ≡ Err y → counted_at read B end n 0 at ≡ Err (in_entry i y)
  counted-at-fault n at m i (ms, row, len, ps) s few y err =
      counted-reaches n 0 at ms ps (subst (Stands B at end) row s) (omega arith) i (at + length m) (omega arith) (ap (λ x. at + length x) row) y err

  pub filling-at-fault : (turns at : ℕ) (m : List ℕ) (i : ℕ) → end - at ≤ turns → Counted M 0 i m → Stands B at end m → at + length m < end → (y : FieldFault) → read i B (at + length m) end ≡ Err y
      → filling_at read B end turns 0 at ≡ Err (in_entry i y)
  filling-at-fault turns at m i enough (ms, row, len, ps) s lt y err =
      filling-reaches turns 0 at ms ps (subst (Stands B at end) row s) enough i (at + length m) lt (omega arith) (ap (λ x. at + length x) row) y err

  judged : (more : ℕ → ℕ → Type 0) (at : ℕ) (r : Result ℕ EntryFault) → Later more 0 at r → CountedFault read M B at end r
  judged more at (Ok e) w = tt
  judged more at (Err x) (j, m, ix, c, s, err, _) = (m, subst (λ a. Counted M 0 a m) (sym (ix ∙ zero-add j)) c, s, err)

  pub counted-exact : (n at : ℕ) (r : Result ℕ EntryFault) → r ≡ counted_at read B end n 0 at → at ≤ end → Reads (Counted M 0 n) B at end r
  counted-exact n at r is le = rw is (counted-reads n 0 at le)

  pub counted-fault : (n at : ℕ) (r : Result ℕ EntryFault) → r ≡ counted_at read B end n 0 at → at ≤ end → CountedFault read M B at end r
  counted-fault n at r is le = rw is (judged (λ j _. j < n) at (counted_at read B end n 0 at) (counted-later n n 0 at (omega arith) le))

  pub filling-fault : (turns at : ℕ) → at ≤ end → CountedFault read M B at end (filling_at read B end turns 0 at)
  filling-fault turns at le = judged (λ _ p. p < end) at (filling_at read B end turns 0 at) (filling-later turns 0 at le)

-- a run that must fit first
module _ (read : Reading) (M : ℕ → List ℕ → Type 0) (k : KindLaw read M) (B : List ℕ) (at end : ℕ) (h : end ≤ length B) (size : ℕ) where
  pub measured-reads : Reads (Measured M 0 size) B at end (measured_at read B at end size)
  measured-reads =
      fit_both at size end (at + size) (λ r. Reads (Measured M 0 size) B at end (on Field r (λ stop. turned Entry (filling_at read B stop size 0 at))))
      (λ fit.
      let n : at + size - at ≡ size = omega arith in
      widen fit (filling_at read B (at + size) size 0 at)
      (subst (λ x. Reads (Measured M 0 x) B at (at + size) (filling_at read B (at + size) size 0 at)) n
      (filling-reads read M k B (at + size) (omega arith) size 0 at (omega arith) (omega arith))))
      (λ lt m p st. omega (arith, st.fits, p.2))
    where
      widen : at + size ≤ end → (r : Result ℕ EntryFault) → Reads (Measured M 0 size) B at (at + size) r → Reads (Measured M 0 size) B at end (turned Entry r)
      widen fit (Ok x) (m, is, p, s) = (m, is, p, record { fits = omega (arith, s.fits); is = s.is })
      widen fit (Err x) none = λ m p s. none m p (record { fits = omega (arith, p.2); is = s.is })

  measured-judged : MeasuredFault read M B at end size (measured_at read B at end size)
  measured-judged =
      fit_both at size end (at + size) (λ r. MeasuredFault read M B at end size (on Field r (λ stop. turned Entry (filling_at read B stop size 0 at))))
      (λ fit. turn fit (filling_at read B (at + size) size 0 at) (filling-fault read M k B (at + size) (omega arith) size at (omega arith)))
      (λ lt. (lt, refl))
    where
      turn : at + size ≤ end → (r : Result ℕ EntryFault) → CountedFault read M B at (at + size) r → MeasuredFault read M B at end size (turned Entry r)
      turn fit (Ok e) w = tt
      turn fit (Err x) w = (fit, w)

  pub measured-exact : (r : Result ℕ BlockFault) → r ≡ measured_at read B at end size → Reads (Measured M 0 size) B at end r
  measured-exact r is = rw is measured-reads

  pub measured-fault : (r : Result ℕ BlockFault) → r ≡ measured_at read B at end size → MeasuredFault read M B at end size r
  measured-fault r is = rw is measured-judged
