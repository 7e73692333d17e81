-- Bytes laid over others: which show, and what one byte more leaves.
use Rattle.std.proofs.Common.{◌≡◌, ◌≢◌, ◌<◌, ◌≤◌, ℕ, suc, ◌-◌, Bool, true, false, cond, eqb, ltb, List, [], ◌∷◌, ◌++◌, length, get_or, set, take, drop, reverse, slice_get, Some, None, Option, refl, sym, ap, subst, ◌∙◌, ⊎_elim, arith, length-take}
use Rattle.std.specs.Option.{option_and_then}
use Rattle.std.proofs.lemmas.Bool.{cond-true, cond-false, cases_eq, cases_lt, lt-ltb, le-ltb, eq-eqb, ne_eqb, eqb-true}
use Rattle.std.proofs.lemmas.List.{get_or_push, get_or-set_same, get_or-set_other, get_or-take, length-set, length_push, length-reverse, reverse-append, set-set, set-get_or, take_at, take-append-drop, length-take-le}
use Rattle.std.proofs.lemmas.Option.{slice_get-get_or, slice_get_past}
use Rattle.awd_places.specs.declared.laid.Covered.{Covered}
use Rattle.awd_places.specs.Numbers.{last_number, number_of}
use Rattle.awd_places.specs.Laid.{laid_at, with_byte}
use Rattle.awd_places.specs.Covers.{laid_by, Covers}
use Rattle.awd_places.proofs.Numbers.{last_before, last_below, last_passes}
use Rattle.awd_places.proofs.Walks.{is_place}

-- a number is that of its place, and below their number
number_is : (ps : List ℕ) (place n : ℕ) → number_of ps place ≡ Some n → (n < length ps) × (get_or ps n 0 ≡ place)
number_is ps place n is = (last_below (is_place place) ps (length ps) n is, eqb-true _ _ (last_passes (is_place place) ps (length ps) n is))

-- as many bytes show as there are places, and these are at most as many as the bytes laid
pub as_many : (ps bs : List ℕ) (cs : List (Option Covered)) → Covers ps bs cs → (length bs ≡ length ps) × (length ps ≤ length cs)
as_many ps bs [] h = (ap length h.1 ∙ sym (ap length h.0), omega (arith, ap length h.0))
as_many ps bs (None ∷ cs) h =
    let some = h.0 in
    let front = length-take (length ps - 1) ps in
    let rest = as_many (take (length ps - 1) ps) (take (length ps - 1) bs) cs h.2 in
    (h.1, omega arith)
as_many ps bs (Some c ∷ cs) h =
    let rest = as_many ps (set bs c.number c.byte) cs h.1 in
    (sym (length-set bs c.number c.byte) ∙ rest.0, omega arith)

-- there is a byte laid for each thing covered
length_laid : (ps bs : List ℕ) (cs : List (Option Covered)) → length (laid_by ps bs cs) ≡ length cs
length_laid ps bs [] = refl
length_laid ps bs (None ∷ cs) = ap suc (length_laid (take (length ps - 1) ps) (take (length ps - 1) bs) cs)
length_laid ps bs (Some c ∷ cs) = ap suc (length_laid ps (set bs c.number c.byte) cs)

-- the byte that shows at a place
abbrev shown_at : List ℕ → List ℕ → ℕ → Option ℕ
shown_at ps bs place = option_and_then (slice_get bs) (number_of ps place)

-- a function where a test says yes, or else of another
and_then_cond : (f : ℕ → Option ℕ) (b : Bool) (n : ℕ) (o : Option ℕ)
    → option_and_then f (cond b (Some n) o) ≡ cond b (f n) (option_and_then f o)
and_then_cond f true n o = refl
and_then_cond f false n o = refl

-- two functions that agree where there is a number
and_then_same : (f g : ℕ → Option ℕ) (o : Option ℕ) → ((k : ℕ) → o ≡ Some k → f k ≡ g k) → option_and_then f o ≡ option_and_then g o
and_then_same f g None h = refl
and_then_same f g (Some k) h = h k refl

-- a byte in front of a number is the one that it was
get_front : (bs : List ℕ) (n k : ℕ) → k < n → n < length bs → slice_get bs k ≡ slice_get (take n bs) k
get_front bs n k h w =
    let front = length-take n bs in
    let there = slice_get-get_or (take n bs) k 0 (omega arith) in
    slice_get-get_or bs k 0 (omega arith) ∙ ap Some (sym (get_or-take n bs k 0 h)) ∙ sym there

-- and so is one at another number than the one written
get_other : (bs : List ℕ) (n k byte : ℕ) → k ≢ n → slice_get bs k ≡ slice_get (set bs n byte) k
get_other bs n k byte other =
    let same = length-set bs n byte in
    ⊎_elim
    (λ (h : k < length bs).
    let there = slice_get-get_or (set bs n byte) k 0 (omega arith) in
    slice_get-get_or bs k 0 h ∙ ap Some (sym (get_or-set_other bs n k byte 0 other)) ∙ sym there)
    (λ (h : length bs ≤ k). slice_get_past bs k h ∙ sym (slice_get_past (set bs n byte) k (omega arith)))
    (cases_lt k (length bs))

-- the number of a place among the first of some
number_front : (ps : List ℕ) (place n : ℕ) → n ≤ length ps → number_of (take n ps) place ≡ last_number (is_place place) ps n
number_front ps place n h =
    let few = length-take-le n ps h in
    ap (last_number (is_place place) (take n ps)) few
    ∙ sym (last_before (is_place place) (take n ps) (drop n ps) n (omega arith))
    ∙ ap (λ xs. last_number (is_place place) xs n) (take-append-drop n ps)

-- with the last place apart
shown_last : (ps bs : List ℕ) (place n : ℕ) → length ps ≡ suc n → length bs ≡ suc n
    → shown_at ps bs place ≡ cond (eqb (get_or ps n 0) place) (Some (get_or bs n 0)) (shown_at (take n ps) (take n bs) place)
shown_last ps bs place n many same =
    let b = eqb (get_or ps n 0) place in
    let before = last_number (is_place place) ps n in
    let front = number_front ps place n (omega arith) in
    let same_front = λ (k : ℕ) (is : before ≡ Some k). get_front bs n k (last_below (is_place place) ps n k is) (omega arith) in
    ap (λ m. option_and_then (slice_get bs) (last_number (is_place place) ps m)) many
    ∙ and_then_cond (slice_get bs) b n before
    ∙ ap (λ o. cond b o (option_and_then (slice_get bs) before)) (slice_get-get_or bs n 0 (omega arith))
    ∙ ap (cond b (Some (get_or bs n 0))) (and_then_same (slice_get bs) (slice_get (take n bs)) before same_front)
    ∙ ap (λ o. cond b (Some (get_or bs n 0)) (option_and_then (slice_get (take n bs)) o)) (sym front)

-- with one byte covered
shown_over : (ps bs : List ℕ) (place n byte : ℕ) → length bs ≡ length ps → number_of ps (get_or ps n 0) ≡ Some n
    → shown_at ps bs place ≡ cond (eqb (get_or ps n 0) place) (Some (get_or bs n 0)) (shown_at ps (set bs n byte) place)
shown_over ps bs place n byte same is =
    ⊎_elim
    (λ (here : get_or ps n 0 ≡ place).
    let n_in = (number_is ps (get_or ps n 0) n is).0 in
    ap (option_and_then (slice_get bs)) (ap (number_of ps) (sym here) ∙ is) ∙ slice_get-get_or bs n 0 (omega arith)
    ∙ sym (cond-true (eqb (get_or ps n 0) place) (Some (get_or bs n 0)) (shown_at ps (set bs n byte) place) (eq-eqb _ _ here)))
    (λ (away : get_or ps n 0 ≡ place → ⊥).
    and_then_same (slice_get bs) (slice_get (set bs n byte)) (number_of ps place)
    (λ k at. get_other bs n k byte (λ e. away (ap (λ m. get_or ps m 0) (sym e) ∙ (number_is ps place k at).1)))
    ∙ sym (cond-false (eqb (get_or ps n 0) place) (Some (get_or bs n 0)) (shown_at ps (set bs n byte) place) (ne_eqb _ _ away)))
    (cases_eq (get_or ps n 0) place)

-- the byte that shows is the one laid latest
shows : (ps bs : List ℕ) (cs : List (Option Covered)) (place : ℕ) → Covers ps bs cs → shown_at ps bs place ≡ laid_at (laid_by ps bs cs) place
shows ps bs [] place h = rw h.0 refl
shows ps bs (None ∷ cs) place h =
    let some = h.0 in
    let n = length ps - 1 in
    let many : length ps ≡ suc n = omega arith in
    shown_last ps bs place n many (h.1 ∙ many)
    ∙ ap (cond (eqb (get_or ps n 0) place) (Some (get_or bs n 0)))
    (shows (take (length ps - 1) ps) (take (length ps - 1) bs) cs place h.2)
shows ps bs (Some c ∷ cs) place h =
    let n = c.number in
    let same = sym (length-set bs n c.byte) ∙ (as_many ps (set bs n c.byte) cs h.1).0 in
    shown_over ps bs place n c.byte same h.0
    ∙ ap (cond (eqb (get_or ps n 0) place) (Some (get_or bs n 0))) (shows ps (set bs c.number c.byte) cs place h.1)

-- of bytes laid
module _ (ps bs : List ℕ) (cs : List (Option Covered)) (h : Covers ps bs cs) (place byte : ℕ) where
  -- one more over another, which it covers
  module _ (n : ℕ) (is : number_of ps place ≡ Some n) where
    back : set (set bs n byte) n (get_or bs n 0) ≡ bs
    back = set-set bs n byte (get_or bs n 0) ∙ set-get_or bs n 0

    laid_over : laid_by ps (set bs n byte) (Some record { number = n; byte = get_or bs n 0 } ∷ cs) ≡ (place, byte) ∷ laid_by ps bs cs
    laid_over =
        let n_is = number_is ps place n is in
        let here = n_is.0 in
        let many = (as_many ps bs cs h).0 in
        let x = n_is.1 in
        let y = get_or-set_same bs n byte 0 (omega arith) in
        rw (back, x, y) refl

    covers_over : Covers ps (set bs n byte) (Some record { number = n; byte = get_or bs n 0 } ∷ cs)
    covers_over = (ap (number_of ps) (number_is ps place n is).1 ∙ is, subst (λ xs. Covers ps xs cs) (sym back) h)

  -- one more at a place of its own
  many : length bs ≡ length ps
  many = (as_many ps bs cs h).0

  before : length (ps ++ place ∷ []) - 1 ≡ length ps
  before = let more = length_push ps place in omega arith

  laid_new : laid_by (ps ++ place ∷ []) (bs ++ byte ∷ []) (None ∷ cs) ≡ (place, byte) ∷ laid_by ps bs cs
  laid_new =
      let x = get_or_push ps place 0 (length ps) refl in
      let y = get_or_push bs byte 0 (length ps) many in
      let xs = take_at ps (place ∷ []) (length ps) refl in
      let ys = take_at bs (byte ∷ []) (length ps) many in
      rw (before, x, y, xs, ys) refl

  covers_new : Covers (ps ++ place ∷ []) (bs ++ byte ∷ []) (None ∷ cs)
  covers_new =
      let xs = take_at ps (place ∷ []) (length ps) refl in
      let ys = take_at bs (byte ∷ []) (length ps) many in
      let more = length_push ps place in
      let also = length_push bs byte in
      let same = many in
      (omega arith, omega arith, rw (before, xs, ys) h)

-- a place that has a number has a byte
pub has_byte : (ps bs : List ℕ) (cs : List (Option Covered)) → Covers ps bs cs → (place n : ℕ)
    → number_of ps place ≡ Some n → n < length bs
has_byte ps bs cs h place n is = let here = (number_is ps place n is).0 in let same = (as_many ps bs cs h).0 in omega arith

-- and that is the one laid latest there
pub has_latest : (ps bs : List ℕ) (cs : List (Option Covered)) → Covers ps bs cs → (place n : ℕ)
    → number_of ps place ≡ Some n → Some (get_or bs n 0) ≡ laid_at (laid_by ps bs cs) place
has_latest ps bs cs h place n is =
    sym (slice_get-get_or bs n 0 (has_byte ps bs cs h place n is)) ∙ ap (option_and_then (slice_get bs)) (sym is) ∙ shows ps bs cs place h

-- a place that has none has no byte
pub has_none : (ps bs : List ℕ) (cs : List (Option Covered)) → Covers ps bs cs → (place : ℕ)
    → number_of ps place ≡ None → None ≡ laid_at (laid_by ps bs cs) place
has_none ps bs cs h place is = ap (option_and_then (slice_get bs)) (sym is) ∙ shows ps bs cs place h

-- the byte to which an undo leads back has a place
pub back_fits : (ps bs : List ℕ) (c : Covered) (cs : List (Option Covered)) → Covers ps bs (Some c ∷ cs) → c.number < length bs
back_fits ps bs c cs h = has_byte ps bs (Some c ∷ cs) h (get_or ps c.number 0) c.number h.0

-- of what is kept, in the order in which it came
module _ (ps bs : List ℕ) (kept : List (Option Covered)) (h : Covers ps bs (reverse kept)) where
  -- the bytes laid so far
  abbrev so_far : List (ℕ × ℕ)
  so_far = laid_by ps bs (reverse kept)

  many_laid : length so_far ≡ length kept
  many_laid = length_laid ps bs (reverse kept) ∙ length-reverse kept

  -- where there is no room they stay
  pub no_room : (place byte : ℕ) → length kept ≡ 2048 → so_far ≡ with_byte so_far place byte
  no_room place byte full =
      let fills : 2048 ≤ length so_far = omega (arith, many_laid) in
      sym (cond-false (ltb (length so_far) 2048) ((place, byte) ∷ so_far) so_far (le-ltb (length so_far) 2048 fills))

  -- there is room for their places and bytes where there is room for them
  pub room_too : length kept < 2048 → (length ps < 2048) × (length bs < 2048)
  room_too room =
      let many = as_many ps bs (reverse kept) h in
      let same = many.0 in
      let fewer = many.1 in
      let turned = length-reverse kept in
      (omega arith, omega arith)

  -- of one more
  module _ (room : length kept < 2048) (place byte : ℕ) where
    with_room : (place, byte) ∷ so_far ≡ with_byte so_far place byte
    with_room =
        let fits : length so_far < 2048 = omega (arith, many_laid) in
        sym (cond-true (ltb (length so_far) 2048) ((place, byte) ∷ so_far) so_far (lt-ltb (length so_far) 2048 fits))

    -- it is the first in the other order
    turned : (more : List (Option Covered)) (c : Option Covered) → more ≡ kept ++ c ∷ [] → reverse more ≡ c ∷ reverse kept
    turned more c is = ap reverse is ∙ reverse-append kept (c ∷ [])

    -- laid over another
    pub pushed_over : (n : ℕ) → number_of ps place ≡ Some n → (shown : List ℕ) (more : List (Option Covered))
        → shown ≡ set bs n byte → more ≡ kept ++ Some record { number = n; byte = get_or bs n 0 } ∷ []
        → Covers ps shown (reverse more) × (laid_by ps shown (reverse more) ≡ with_byte so_far place byte)
    pushed_over n is shown more written added =
        rw (written, turned more _ added)
        (covers_over ps bs (reverse kept) h place byte n is, laid_over ps bs (reverse kept) h place byte n is ∙ with_room)

    -- laid at a place of its own
    pub pushed_new : (places shown : List ℕ) (more : List (Option Covered))
        → places ≡ ps ++ place ∷ [] → shown ≡ bs ++ byte ∷ [] → more ≡ kept ++ None ∷ []
        → Covers places shown (reverse more) × (laid_by places shown (reverse more) ≡ with_byte so_far place byte)
    pushed_new places shown more come laid added =
        rw (come, laid, turned more _ added)
        (covers_new ps bs (reverse kept) h place byte, laid_new ps bs (reverse kept) h place byte ∙ with_room)
