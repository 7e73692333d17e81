-- Bytes of joined pages, out of those of the run, and the first page outside it.
use Rattle.std.proofs.Common.{◌≡◌, nat_lt, not, Some, None, ℕ, zero, suc, ◌+◌, ◌*◌, ◌/◌, ◌%◌, ◌<◌, ◌≤◌, Bool, List, [], ◌∷◌, drop, length, get_or, take, Err, refl, ap, ◌∙◌, mod-lt, arith, length-append, length-drop, length-take, append-nil}
use native.Mathlib.Nat.{div-add-mod}
use Rattle.std.specs.List.{flat_map, position, position_or_len, prefix_len}
use Rattle.std.proofs.lemmas.Bool.Decides.{nat_tests}
use Rattle.std.proofs.lemmas.Grind.{common_steps, flat_map-append}
use Rattle.std.proofs.lemmas.Bool.{leb-true, lt-ltb}
use Rattle.std.proofs.lemmas.List.{get_or-take, get_or-drop, take_more, take_all}
use Rattle.std.proofs.lemmas.List.Concat.{get_or-flat_map}
use Rattle.std.proofs.lemmas.List.Sums.{prefix_len-le-length, prefix_len_passes}
use Rattle.awd_source.specs.Bytes.{byte_at}
use Rattle.awd_fault.specs.Faults.{of_call}
use Rattle.awd_source.specs.Pages.{page, whole, whole_front, paged, filling}

module _ (run ps : List ℕ) (inside : whole_front run ps ≡ length ps) where
  page-inside : (k : ℕ) → k < length ps → 512 * get_or ps k 0 + 512 ≤ length run
  page-inside k h = leb-true _ _ (prefix_len_passes (whole run) ps k 0 (omega arith))

  length-page : (k : ℕ) → k < length ps → length (page run (get_or ps k 0)) ≡ 512
  length-page k h = let w = page-inside k h in simp (length-take, length-drop) (omega arith)

  -- the first n listed pages
  length-joined : (n : ℕ) → n ≤ length ps → length (flat_map (page run) (take n ps)) ≡ 512 * n
  length-joined zero h = refl
  length-joined (suc n) h =
      let before = length-joined n (omega arith) in
      let last = length-page n h in
      let one : suc n ≡ n + 1 = omega arith in
      rw (one, take_more ps n 0 h, flat_map-append (page run) (take n ps) (get_or ps n 0 ∷ []), append-nil, length-append) (omega arith)

  module _ (size : ℕ) (enough : size ≤ 512 * length ps) where
    pub length-paged : length (paged run ps size) ≡ size
    length-paged =
        let all : take (length ps) ps ≡ ps = take_all (length ps) ps (omega arith) in
        let joined = rw all at (length-joined (length ps) (omega arith)) in
        simp length-take (omega arith)

    -- the byte at a place is one of the page that is listed there
    pub paged-byte : (at : ℕ) → at < size → byte_at run (512 * get_or ps (at / 512) 0 + at % 512) ≡ byte_at (paged run ps size) at
    paged-byte at h =
        let d = div-add-mod at 512 in
        let m : at % 512 < 512 = mod-lt at (omega arith) in
        let q : at / 512 < length ps = omega arith in
        let p = get_or ps (at / 512) 0 in
        let within = page-inside (at / 512) q in
        let n = length-page (at / 512) q in
        let before = length-joined (at / 512) (omega arith) in
        let place : at ≡ length (flat_map (page run) (take (at / 512) ps)) + at % 512 = omega arith in
        let byte : get_or (flat_map (page run) ps) at 0 ≡ get_or run (512 * p + at % 512) 0 =
        ap (λ k. get_or (flat_map (page run) ps) k 0) place
        ∙ get_or-flat_map (page run) ps (at / 512) (at % 512) 0 0 q (omega arith)
        ∙ get_or-take 512 (drop (512 * p) run) (at % 512) 0 m
        ∙ get_or-drop (512 * p) run (at % 512) 0 in
        let l : at < length (paged run ps size) = rw length-paged h in
        rw (lt-ltb at (length (paged run ps size)) l, lt-ltb (512 * p + at % 512) (length run) (omega arith), get_or-take size (flat_map (page run) ps) at 0 h, byte)

-- whether page p is not wholly inside a run, as the program asks
abbrev pub beyond : List ℕ → ℕ → Bool
beyond run p = nat_lt (length run) (512 * p + 512)

not-beyond : (run : List ℕ) (p : ℕ) → whole run p ≡ not (beyond run p)
not-beyond run p = grind (arith, nat_tests)

-- what filling tells by the first page that is not wholly inside the run
module _ (run ps : List ℕ) where
  front-position : whole_front run ps ≡ position_or_len (beyond run) ps
  front-position = ap (λ w. prefix_len w ps) (λ k p. not-beyond run p k)

  pub outside : (size i : ℕ) → size ≤ 512 * length ps → position (beyond run) ps ≡ Some i → Err (of_call 28 i 0) ≡ filling run ps size
  outside size i enough e = let f = front-position in grind (arith, common_steps, nat_tests)

  pub all-inside : position (beyond run) ps ≡ None → whole_front run ps ≡ length ps
  all-inside e = let f = front-position in grind (arith, common_steps, prefix_len-le-length)
