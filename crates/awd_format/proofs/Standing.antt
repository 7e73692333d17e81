-- What stands where in a list of bytes.
use Rattle.std.proofs.Common.{◌≡◌, ℕ, ◌+◌, ◌-◌, ◌<◌, ◌≤◌, cond, leb, List, [], ◌++◌, length, Ok, Err, Result, take, drop, sym, refl, ap, ◌∙◌, subst, ⊎_elim, add-zero, arith, length-append, take-take, drop-drop, take-add}
use lib.Seq.{take-append_seam, take-length}
use Rattle.std.proofs.lemmas.List.{append_cancel_left, append-nil}
use Rattle.std.proofs.lemmas.Bool.{cases_lt, cond_both, leb-true, leb-false}
use Rattle.awd_source.specs.Bytes.{part}
use Rattle.awd_source.proofs.Parts.{length_part}
use Rattle.awd_block_fault.specs.declared.FieldFault.{FieldFault}
use Rattle.awd_block_fault.specs.Faults.{short}
use Rattle.awd_format.specs.Sets.{Stands, NoneBegins}

-- what fits behind a place, and what does not
pub fit_both : (at n end v : ℕ) (P : Result ℕ FieldFault → Type 0) → (at + n ≤ end → P (Ok v)) → (end < at + n → P (Err (short at))) → P (cond (leb (at + n) end) (Ok v) (Err (short at)))
fit_both at n end v P fits over = cond_both (leb (at + n) end) (Ok v) (Err (short at)) P (λ is. fits (leb-true (at + n) end is)) (λ is. over (leb-false (at + n) end is))

pub part-add : (B : List ℕ) (at n m : ℕ) → part B at (n + m) ≡ part B at n ++ part B (at + n) m
part-add B at n m = take-add n m (drop at B) ∙ ap (λ x. take n (drop at B) ++ take m x) (drop-drop n at B)

-- nothing stands wherever there is room for it
pub stands-none : (B : List ℕ) (at end : ℕ) → at ≤ end → Stands B at end []
stands-none B at end h = record { fits = omega (arith, add-zero at); is = refl }

-- so many bytes stand where they fit
pub stands-part : (B : List ℕ) (at end n : ℕ) → at + n ≤ end → end ≤ length B → Stands B at end (part B at n)
stands-part B at end n h k =
    let l : length (part B at n) ≡ n = length_part B at n (omega arith) in
    record { fits = omega arith; is = ap (part B at) l }

-- one after another
pub stands-more : (B : List ℕ) (at end : ℕ) (m t : List ℕ) → Stands B at end m → Stands B (at + length m) end t → Stands B at end (m ++ t)
stands-more B at end m t s u =
    record {
      fits = omega (arith, s.fits, u.fits, length-append m t);
      is = ap (part B at) (length-append m t) ∙ part-add B at (length m) (length t) ∙ ap (λ x. x ++ part B (at + length m) (length t)) s.is ∙ ap (λ x. m ++ x) u.is;
    }

pub stands-first : (B : List ℕ) (at end : ℕ) (m t : List ℕ) → Stands B at end (m ++ t) → Stands B at end m
stands-first B at end m t s =
    let l : length m ≤ length (m ++ t) = omega (arith, length-append m t) in
    record {
      fits = omega (arith, s.fits);
      is = sym (take-take (length m) (length (m ++ t)) (drop at B) l) ∙ ap (take (length m)) s.is ∙ take-append_seam m t;
    }

pub stands-rest : (B : List ℕ) (at end : ℕ) (m t : List ℕ) → Stands B at end (m ++ t) → Stands B (at + length m) end t
stands-rest B at end m t s =
    let e : part B at (length m) ++ part B (at + length m) (length t) ≡ m ++ t = sym (part-add B at (length m) (length t)) ∙ ap (part B at) (sym (length-append m t)) ∙ s.is in
    let f : m ++ part B (at + length m) (length t) ≡ m ++ t = ap (λ x. x ++ part B (at + length m) (length t)) (sym (stands-first B at end m t s).is) ∙ e in
    record {
      fits = omega (arith, s.fits, length-append m t);
      is = append_cancel_left m (part B (at + length m) (length t)) t f;
    }

-- of two lists at one place the shorter begins the longer
stands-begins : (B : List ℕ) (at end : ℕ) (m n : List ℕ) → Stands B at end m → Stands B at end n → length m ≤ length n → (t : List ℕ) × (n ≡ m ++ t)
stands-begins B at end m n s u h =
    let k : length n ≡ length m + (length n - length m) = omega arith in
    (part B (at + length m) (length n - length m), sym u.is ∙ ap (part B at) k ∙ part-add B at (length m) (length n - length m) ∙ ap (λ x. x ++ part B (at + length m) (length n - length m)) s.is)

-- one member at most of a set in which none begins another
pub stands_one : (P : List ℕ → Type 0) → NoneBegins P → (B : List ℕ) (at end : ℕ) (m n : List ℕ) → P m → P n → Stands B at end m → Stands B at end n → m ≡ n
stands_one P free B at end m n p q s u =
    ⊎_elim
    (λ (h : length m < length n). let b = stands-begins B at end m n s u (omega arith) in sym (b.1 ∙ ap (λ x. m ++ x) (free m b.0 p (subst P b.1 q)) ∙ append-nil m))
    (λ h. let b = stands-begins B at end n m u s h in b.1 ∙ ap (λ x. n ++ x) (free n b.0 q (subst P b.1 p)) ∙ append-nil n)
    (cases_lt (length m) (length n))

-- so of two ways in which a list begins with a member
pub begins-one : (P : List ℕ → Type 0) → NoneBegins P → (m t n u : List ℕ) → P m → P n → m ++ t ≡ n ++ u → (m ≡ n) × (t ≡ u)
begins-one P free m t n u p q e =
    let whole : Stands (m ++ t) 0 (length (m ++ t)) (m ++ t) = record { fits = omega arith; is = take-length (m ++ t) } in
    let a = stands-first (m ++ t) 0 (length (m ++ t)) m t whole in
    let b = stands-first (m ++ t) 0 (length (m ++ t)) n u (subst (Stands (m ++ t) 0 (length (m ++ t))) e whole) in
    let one = stands_one P free (m ++ t) 0 (length (m ++ t)) m n p q a b in
    (one, append_cancel_left n t u (ap (λ x. x ++ t) (sym one) ∙ e))
