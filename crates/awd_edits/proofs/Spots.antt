-- The bytes that edits lay, as they are kept: what is found at a place is what the latest edit lays there.
use Rattle.std.proofs.Common.{◌≡◌, ℕ, zero, suc, ◌+◌, ◌-◌, ◌*◌, ◌^◌, ◌<◌, ◌≤◌, Bool, true, false, cond, eqb, ltb, leb, List, [], ◌∷◌, length, drop, get_or, slice_get, Some, None, Option, refl, sym, ap, ◌∙◌, ⊎_elim, arith}
use Rattle.std.specs.Option.{SomeIff, is_some, option_or}
use Rattle.std.proofs.lemmas.Bool.{cond_both, cond-true, cond-false, cases_order, lt-ltb, ltb-true, ltb-false, false_from_ne_true, le-leb, lt-leb, eq-eqb, ne_eqb}
use Rattle.std.proofs.lemmas.List.{drop_more, drop-drop}
use Rattle.awd_places.specs.Laid.{laid_at, with_byte}
use Rattle.awd_edits.specs.declared.edit.Edit.{Edit}
use Rattle.awd_edits.specs.Overlay.{bytes_laid, byte_laid, latest}
use Rattle.awd_edits.specs.Spots.{with_spot, spots_from, spots, FewEach}

-- what holds of bytes with one more and without it
one_or_none : (ls : List (ℕ × ℕ)) (place v : ℕ) (P : List (ℕ × ℕ) → Type 0)
    → (place < 2 ^ 64 → P ((place, v) ∷ ls)) → (2 ^ 64 ≤ place → P ls) → P (with_spot ls place v)
one_or_none ls place v P within beyond =
    cond_both (ltb place (2 ^ 64)) ((place, v) ∷ ls) ls P
    (λ is. within (ltb-true place (2 ^ 64) is))
    (λ is. beyond (ltb-false place (2 ^ 64) is))

-- what is found under one more
found_one : (ls : List (ℕ × ℕ)) (place v at : ℕ) → at < 2 ^ 64
    → laid_at (with_spot ls place v) at ≡ cond (eqb place at) (Some v) (laid_at ls at)
found_one ls place v at h =
    one_or_none ls place v (λ xs. laid_at xs at ≡ cond (eqb place at) (Some v) (laid_at ls at))
    (λ within. refl)
    (λ beyond. sym (cond-false (eqb place at) (Some v) (laid_at ls at) (ne_eqb place at (λ is. omega arith))))

-- the byte of bytes laid from a place on, at a place
abbrev pub byte_from : ℕ → List ℕ → ℕ → Option ℕ
byte_from place vs at = cond (leb place at) (slice_get vs (at - place)) None

-- where no bytes are left there is none
byte_from-nil : (place at : ℕ) → byte_from place [] at ≡ None
byte_from-nil place at = cond_both (leb place at) None None (λ o. o ≡ None) (λ _. refl) (λ _. refl)

-- the first of them, or else one of the others
byte_from-cons : (place v : ℕ) (vs : List ℕ) (at : ℕ) (o : Option ℕ)
    → option_or (byte_from (place + 1) vs at) (cond (eqb place at) (Some v) o) ≡ option_or (byte_from place (v ∷ vs) at) o
byte_from-cons place v vs at o =
    ⊎_elim
    (λ (here : place ≡ at).
    let zero_is : at - place ≡ 0 = omega arith in
    rw (lt-leb (place + 1) at (omega arith), eq-eqb place at here, le-leb place at (omega arith), zero_is) refl)
    (⊎_elim
    (λ (before : place < at).
    let suc_is : at - place ≡ suc (at - (place + 1)) = omega arith in
    rw (le-leb (place + 1) at (omega arith), ne_eqb place at (λ e. omega arith), le-leb place at (omega arith), suc_is) refl)
    (λ (past : at < place).
    rw (lt-leb (place + 1) at (omega arith), ne_eqb place at (λ e. omega arith), lt-leb place at past) refl))
    (cases_order place at)

-- what is found under bytes laid from a place on
found_from : (ls : List (ℕ × ℕ)) (place : ℕ) (vs : List ℕ) (at : ℕ) → at < 2 ^ 64
    → laid_at (spots_from ls place vs) at ≡ option_or (byte_from place vs at) (laid_at ls at)
found_from ls place [] at h = rw (byte_from-nil place at) refl
found_from ls place (v ∷ vs) at h =
    found_from (with_spot ls place v) (place + 1) vs at h
    ∙ ap (option_or (byte_from (place + 1) vs at)) (found_one ls place v at h)
    ∙ byte_from-cons place v vs at (laid_at ls at)

-- what is found under edits
pub found_latest : (es : List Edit) (at : ℕ) → at < 2 ^ 64 → laid_at (spots es) at ≡ latest es at
found_latest [] at h = refl
found_latest (e ∷ es) at h = found_from (spots es) e.place (bytes_laid e.laid) at h ∙ ap (option_or (byte_laid e at)) (found_latest es at h)

-- there is one more at most
length_one : (ls : List (ℕ × ℕ)) (place v : ℕ) → length (with_spot ls place v) ≤ length ls + 1
length_one ls place v = one_or_none ls place v (λ xs. length xs ≤ length ls + 1) (λ _. omega arith) (λ _. omega arith)

-- bytes laid are no more than that
length_from : (ls : List (ℕ × ℕ)) (place : ℕ) (vs : List ℕ) → length (spots_from ls place vs) ≤ length ls + length vs
length_from ls place [] = omega arith
length_from ls place (v ∷ vs) =
    let rest = length_from (with_spot ls place v) (place + 1) vs in
    let one = length_one ls place v in
    omega arith

-- nor are those of edits that lay at most 8 each
pub length_spots : (es : List Edit) → FewEach es → length (spots es) ≤ 8 * length es
length_spots [] few = omega arith
length_spots (e ∷ es) few =
    let rest = length_spots es few.1 in
    let one = length_from (spots es) e.place (bytes_laid e.laid) in
    let eight = few.0 in
    omega arith

-- one byte of bytes that are laid in their turn
lay_next : (ls : List (ℕ × ℕ)) (place : ℕ) (vs : List ℕ) (k : ℕ) → k < length vs
    → spots_from ls (place + k) (drop k vs)
    ≡ spots_from (with_spot ls (place + k) (get_or vs k 0)) (place + (k + 1)) (drop (k + 1) vs)
lay_next ls place vs k h =
    let next : place + k + 1 ≡ place + (k + 1) = omega arith in
    let more = with_spot ls (place + k) (get_or vs k 0) in
    ap (spots_from ls (place + k)) (drop_more vs k 0 h) ∙ ap (λ p. spots_from more p (drop (k + 1) vs)) next

-- a byte pushed where there is room, at a place that 64 bits hold, or left out at one that they do not
pub pushed_one : (ls : List (ℕ × ℕ)) (place v : ℕ) → length ls < 2048 → place < 2 ^ 64
    → with_byte ls place v ≡ with_spot ls place v
pushed_one ls place v room within =
    cond-true (ltb (length ls) 2048) ((place, v) ∷ ls) ls (lt-ltb (length ls) 2048 room)
    ∙ sym (cond-true (ltb place (2 ^ 64)) ((place, v) ∷ ls) ls (lt-ltb place (2 ^ 64) within))

pub left_out : (ls : List (ℕ × ℕ)) (place v : ℕ) → (place < 2 ^ 64 → ⊥) → ls ≡ with_spot ls place v
left_out ls place v beyond = one_or_none ls place v (λ xs. ls ≡ xs) (λ within. absurd (beyond within)) (λ _. refl)

-- whether 64 bits hold a place, by what an addition gives
pub holds_place : (sum : Option ℕ) (place : ℕ) → SomeIff sum (place < 2 ^ 64) place → is_some sum ≡ ltb place (2 ^ 64)
holds_place None place h = sym (false_from_ne_true (ltb place (2 ^ 64)) (λ within. h (ltb-true place (2 ^ 64) within)))
holds_place (Some p) place h = sym (lt-ltb place (2 ^ 64) h.0)

-- so the bytes that are left to be laid come to the same, and there is one more at most
pub laid_one : (first ls more all : List (ℕ × ℕ)) (place : ℕ) (vs : List ℕ) (k : ℕ) → k < length vs
    → more ≡ with_spot ls (place + k) (get_or vs k 0)
    → spots_from ls (place + k) (drop k vs) ≡ all → length ls ≤ length first + k
    → record { comes_to : spots_from more (place + (k + 1)) (drop (k + 1) vs) ≡ all; room : length more ≤ length first + (k + 1) }
laid_one first ls more all place vs k h is comes_to room = record {
  comes_to = ap (λ xs. spots_from xs (place + (k + 1)) (drop (k + 1) vs)) is ∙ sym (lay_next ls place vs k h) ∙ comes_to;
  room = let one = length_one ls (place + k) (get_or vs k 0) in let same = ap length is in omega arith;
}

-- how many of so many places in a row 64 bits hold
abbrev pub held : ℕ → ℕ → ℕ
held place zero = 0
held place (suc n) = cond (ltb place (2 ^ 64)) 1 0 + held (place + 1) n

-- one taken away where one was laid
cond_one : (b : Bool) (x : ℕ × ℕ) (ls : List (ℕ × ℕ)) → drop (cond b 1 0) (cond b (x ∷ ls) ls) ≡ ls
cond_one true x ls = refl
cond_one false x ls = refl

-- and none where none was
drop_cond : (b : Bool) (ls : List (ℕ × ℕ)) → drop (cond b 1 0) ls ≡ cond b (drop 1 ls) ls
drop_cond true ls = refl
drop_cond false ls = refl

-- as many taken away leave what was there before
taken_off : (ls : List (ℕ × ℕ)) (place : ℕ) (vs : List ℕ) → drop (held place (length vs)) (spots_from ls place vs) ≡ ls
taken_off ls place [] = refl
taken_off ls place (v ∷ vs) =
    let now = cond (ltb place (2 ^ 64)) 1 0 in
    let later = held (place + 1) (length vs) in
    let S = spots_from (with_spot ls place v) (place + 1) vs in
    let turn : now + later ≡ later + now = omega arith in
    ap (λ n. drop n S) turn ∙ sym (drop-drop now later S) ∙ ap (drop now) (taken_off (with_spot ls place v) (place + 1) vs)
    ∙ cond_one (ltb place (2 ^ 64)) (place, v) ls

-- one of them
take_next : (ls : List (ℕ × ℕ)) (place k n : ℕ) → k < n
    → drop (held (place + k) (n - k)) ls ≡ drop (held (place + (k + 1)) (n - (k + 1))) (cond (ltb (place + k) (2 ^ 64)) (drop 1 ls) ls)
take_next ls place k n h =
    let b = ltb (place + k) (2 ^ 64) in
    let rest : n - k ≡ suc (n - (k + 1)) = omega arith in
    let next : place + k + 1 ≡ place + (k + 1) = omega arith in
    ap (λ m. drop (held (place + k) m) ls) rest
    ∙ ap (λ p. drop (cond b 1 0 + held p (n - (k + 1))) ls) next
    ∙ sym (drop-drop (held (place + (k + 1)) (n - (k + 1))) (cond b 1 0) ls)
    ∙ ap (drop (held (place + (k + 1)) (n - (k + 1)))) (drop_cond b ls)

-- one of them, taken away where it was laid
pub taken_one : (ls less all : List (ℕ × ℕ)) (place k n : ℕ) → k < n → less ≡ cond (ltb (place + k) (2 ^ 64)) (drop 1 ls) ls
    → drop (held (place + k) (n - k)) ls ≡ all → drop (held (place + (k + 1)) (n - (k + 1))) less ≡ all
taken_one ls less all place k n h is comes_to =
    ap (drop (held (place + (k + 1)) (n - (k + 1)))) is ∙ sym (take_next ls place k n h) ∙ comes_to

-- all of them
pub taken_all : (ls left below : List (ℕ × ℕ)) (place : ℕ) (vs : List ℕ) (k n : ℕ) → n ≤ k → n ≡ length vs
    → ls ≡ spots_from below place vs → drop (held (place + k) (n - k)) left ≡ drop (held place n) ls → left ≡ below
taken_all ls left below place vs k n h many is comes_to =
    let none : n - k ≡ 0 = omega arith in
    ap (λ m. drop (held (place + k) m) left) (sym none) ∙ comes_to
    ∙ ap (λ m. drop (held place m) ls) many ∙ ap (drop (held place (length vs))) is ∙ taken_off below place vs
