-- Pages of a document that lie the other way round show the document when they are listed backwards.
use Rattle.std.proofs.Common.{◌≡◌, ℕ, zero, suc, ◌+◌, ◌-◌, ◌*◌, ◌/◌, ◌<◌, ◌≤◌, ◌⊎◌, inl, inr, List, [], ◌∷◌, ◌++◌, length, take, drop, refl, sym, ap, ◌∙◌, append-nil, append_assoc, length-append, length-drop, arith}
use Rattle.std.specs.List.{flat_map}
use Rattle.std.proofs.lemmas.List.{take-append-le, drop-append-le, nil_from_length}
use Rattle.std.proofs.lemmas.List.Concat.{flat_map-cons}
use Rattle.std.proofs.Math.Seq.{drop-append_seam, take-append_seam, take-append-add, take-length}
use Rattle.awd_source.specs.Pages.{page, paged}
use Rattle.awdreplay.specs.Copies.{page_count, backwards}

-- numbers listed backwards, and one more of them
pub listed : (xs all : List ℕ) (n k : ℕ) → suc k ≡ n → xs ++ backwards n ≡ all → (xs ++ k ∷ []) ++ backwards k ≡ all
listed xs all n k is so_far = append_assoc xs (k ∷ []) (backwards k) ∙ ap (λ m. xs ++ backwards m) is ∙ so_far

-- a page that lies before an end is the same with more bytes behind
page_before : (xs ys : List ℕ) (k : ℕ) → 512 * k + 512 ≤ length xs → page (xs ++ ys) k ≡ page xs k
page_before xs ys k fits =
    ap (take 512) (drop-append-le (512 * k) xs ys (omega (arith, fits)))
    ∙ take-append-le 512 (drop (512 * k) xs) ys (omega (arith, length-drop (512 * k) xs, fits))

-- and the one right behind so many whole ones
page_behind : (xs ys : List ℕ) (m : ℕ) → length xs ≡ 512 * m → length ys ≡ 512 → page (xs ++ ys) m ≡ ys
page_behind xs ys m long one =
    ap (λ n. take 512 (drop n (xs ++ ys))) (sym long) ∙ ap (take 512) (drop-append_seam xs ys) ∙ ap (λ n. take n ys) (sym one) ∙ take-length ys

pages_before : (xs ys : List ℕ) (m : ℕ) → 512 * m ≤ length xs → flat_map (page (xs ++ ys)) (backwards m) ≡ flat_map (page xs) (backwards m)
pages_before xs ys zero fits = refl
pages_before xs ys (suc m) fits =
    flat_map-cons (page (xs ++ ys)) m (backwards m)
    ∙ ap (λ p. p ++ flat_map (page (xs ++ ys)) (backwards m)) (page_before xs ys m (omega (arith, fits)))
    ∙ ap (λ r. page xs m ++ r) (pages_before xs ys m (omega (arith, fits)))
    ∙ sym (flat_map-cons (page xs) m (backwards m))

-- so many pages are stored of a document, and the rest is not: they show what is behind the rest
pub record Shown (whole rest stored : List ℕ) : Type 0 where
  pub pages : ℕ
  pub tail : List ℕ
  pub many : length stored ≡ 512 * pages
  pub parts : whole ≡ rest ++ tail
  pub told : take (length tail) (flat_map (page stored) (backwards pages)) ≡ tail
  -- but for the last page of the document, pages are whole
  pub edge : (tail ≡ []) ⊎ ((k : ℕ) × (length rest ≡ 512 * k))
  pub above : length tail ≤ 512 * pages
  pub below : 512 * pages < length tail + 512

pub none_stored : (whole : List ℕ) → Shown whole whole []
none_stored whole =
    record { pages = 0; tail = []; many = refl; parts = sym (append-nil whole); told = refl; edge = inl refl; above = omega arith; below = omega arith }

-- one page more, filled up
module _ (whole rest stored before p filler next : List ℕ) (s : Shown whole rest stored) (cut : rest ≡ before ++ p) (some : 0 < length p)
    (at : length before ≡ (length rest - 1) / 512 * 512) (fill : length filler ≡ 512 - length p) (is : next ≡ (stored ++ p) ++ filler) where
  short : length p ≤ 512
  short = omega (arith, ap length cut, length-append before p, at)

  one : length (p ++ filler) ≡ 512
  one = omega (arith, length-append p filler, fill, short)

  abbrev earlier : List ℕ
  earlier = flat_map (page stored) (backwards s.pages)

  all_shown : flat_map (page next) (backwards (suc s.pages)) ≡ (p ++ filler) ++ earlier
  all_shown =
      ap (λ l. flat_map (page l) (backwards (suc s.pages))) (is ∙ append_assoc stored p filler)
      ∙ flat_map-cons (page (stored ++ (p ++ filler))) s.pages (backwards s.pages)
      ∙ ap (λ q. q ++ flat_map (page (stored ++ (p ++ filler))) (backwards s.pages)) (page_behind stored (p ++ filler) s.pages s.many one)
      ∙ ap (λ r. (p ++ filler) ++ r) (pages_before stored (p ++ filler) s.pages (omega (arith, s.many)))

  long : length next ≡ 512 * suc s.pages
  long = omega (arith, ap length is, length-append (stored ++ p) filler, length-append stored p, fill, short, s.many)

  whole_pages : length before ≡ 512 * ((length rest - 1) / 512)
  whole_pages = omega (arith, at)

  both : length (p ++ s.tail) ≡ length p + length s.tail
  both = length-append p s.tail

  last_told : s.tail ≡ [] → take (length (p ++ s.tail)) ((p ++ filler) ++ earlier) ≡ p ++ s.tail
  last_told none =
      ap (λ n. take n ((p ++ filler) ++ earlier)) (omega (arith, both, ap length none))
      ∙ ap (take (length p)) (append_assoc p filler earlier) ∙ take-append_seam p (filler ++ earlier) ∙ sym (append-nil p) ∙ ap (λ t. p ++ t) (sym none)

  full_told : length p ≡ 512 → take (length (p ++ s.tail)) ((p ++ filler) ++ earlier) ≡ p ++ s.tail
  full_told full =
      ap (λ n. take n ((p ++ filler) ++ earlier)) both
      ∙ ap (take (length p + length s.tail)) (append_assoc p filler earlier ∙ ap (λ f. p ++ (f ++ earlier)) (nil_from_length filler (omega (arith, fill, full))))
      ∙ take-append-add p earlier (length s.tail) ∙ ap (λ t. p ++ t) s.told

  with_told : take (length (p ++ s.tail)) ((p ++ filler) ++ earlier) ≡ p ++ s.tail → 512 * suc s.pages < length p + length s.tail + 512 → Shown whole before next
  with_told told below =
      record {
        pages = suc s.pages;
        tail = p ++ s.tail;
        many = long;
        parts = s.parts ∙ ap (λ l. l ++ s.tail) cut ∙ append_assoc before p s.tail;
        told = ap (take (length (p ++ s.tail))) all_shown ∙ told;
        edge = inr ((length rest - 1) / 512, whole_pages);
        above = omega (arith, both, short, s.above);
        below = omega (arith, both, below);
      }

  pub page_stored : Shown whole before next
  page_stored = elim s.edge [
    | inl none ↦ with_told (last_told none) (omega (arith, ap length none, s.below, some))
    | inr (k, pages_left) ↦
        let full : length p ≡ 512 = omega (arith, ap length cut, length-append before p, at, pages_left, some) in
        with_told (full_told full) (omega (arith, full, s.below))
  ]

-- nothing is left
pub all_stored : (whole stored : List ℕ) → Shown whole [] stored → paged stored (backwards (page_count (length whole))) (length whole) ≡ whole
all_stored whole stored s =
    let many : page_count (length whole) ≡ s.pages = omega (arith, ap length s.parts, s.above, s.below) in
    ap (λ n. take (length whole) (flat_map (page stored) (backwards n))) many
    ∙ ap (λ w. take (length w) (flat_map (page stored) (backwards s.pages))) s.parts ∙ s.told ∙ sym s.parts
