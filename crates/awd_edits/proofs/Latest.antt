-- The latest edit that covers a place is the one whose byte stands there.
use Rattle.std.proofs.Common.{◌≡◌, ℕ, ◌+◌, ◌-◌, ◌<◌, ◌≤◌, Bool, true, false, cond, ltb, leb, List, [], ◌∷◌, length, get_or, slice_get, Some, None, Option, refl, ap, ◌∙◌, inl, inr, ⊎_elim, arith}
use Rattle.std.specs.Option.{option_map, option_or, unwrap_or}
use Rattle.std.proofs.lemmas.Bool.{cond_both, cases_lt, leb-true, leb-false, ltb-true}
use Rattle.std.proofs.lemmas.Option.{slice_get-get_or, slice_get_past}
use Rattle.awd_source.specs.Bytes.{byte_at}
use Rattle.awd_edits.specs.declared.edit.Edit.{Edit}
use Rattle.awd_edits.specs.Overlay.{lay, bytes_laid, with_edit, overlay, byte_laid, latest}
use Rattle.awd_edits.proofs.Lays.{length_overlay, lay_outside, lay_inside}

-- the byte of bytes laid from a place on, at or behind that place, or else the old one
laid_from : (L : List ℕ) (p : ℕ) (vs : List ℕ) (k : ℕ) → p + k < length L → get_or (lay L p vs) (p + k) 0 ≡ unwrap_or (slice_get vs k) (get_or L (p + k) 0)
laid_from L p vs k h =
    ⊎_elim
    (λ (within : k < length vs). rw (slice_get-get_or vs k 0 within) (lay_inside L p vs k within h))
    (λ (past : length vs ≤ k). rw (slice_get_past vs k past) (lay_outside L p vs (p + k) (inr (omega arith))))
    (cases_lt k (length vs))

-- the byte that one edit leaves
left_by_one : (L : List ℕ) (e : Edit) (at : ℕ) → at < length L → get_or (with_edit L e) at 0 ≡ unwrap_or (byte_laid e at) (get_or L at 0)
left_by_one L e at h =
    cond_both (leb e.place at) (slice_get (bytes_laid e.laid) (at - e.place)) None (λ o. get_or (with_edit L e) at 0 ≡ unwrap_or o (get_or L at 0))
    (λ from. let b = leb-true e.place at from in let q : e.place + (at - e.place) ≡ at = omega arith in rw q at (laid_from L e.place (bytes_laid e.laid) (at - e.place) (omega arith)))
    (λ before. lay_outside L e.place (bytes_laid e.laid) at (inl (leb-false e.place at before)))

-- the first of two, or else the second, or else d
or_else : (o p : Option ℕ) (d : ℕ) → unwrap_or o (unwrap_or p d) ≡ unwrap_or (option_or o p) d
or_else None p d = refl
or_else (Some x) p d = refl

-- the byte that edits leave
pub left_by_all : (B : List ℕ) (es : List Edit) (at : ℕ) → at < length B → get_or (overlay B es) at 0 ≡ unwrap_or (latest es at) (get_or B at 0)
left_by_all B [] at h = refl
left_by_all B (e ∷ es) at h =
    let n = length_overlay B es in
    left_by_one (overlay B es) e at (omega arith) ∙ ap (unwrap_or (byte_laid e at)) (left_by_all B es at h) ∙ or_else (byte_laid e at) (latest es at) (get_or B at 0)

-- values that are the same where a test says yes
pub where_true : {A : Type 0} (b : Bool) (x y : Option A) → (b ≡ true → x ≡ y) → cond b x None ≡ cond b y None
where_true true x y same = same refl
where_true false x y same = refl

-- the byte at a place, or none beyond them
pub latest_wins : (B : List ℕ) (es : List Edit) (at : ℕ) → byte_at (overlay B es) at ≡ cond (ltb at (length B)) (Some (unwrap_or (latest es at) (get_or B at 0))) None
latest_wins B es at =
    rw (length_overlay B es) (where_true (ltb at (length B)) _ _ (λ within. ap Some (left_by_all B es at (ltb-true at (length B) within))))

-- a function under a test
over_some : (b : Bool) (x : ℕ) (f : ℕ → ℕ) → cond b (Some (f x)) None ≡ option_map f (cond b (Some x) None)
over_some true x f = refl
over_some false x f = refl

-- the same, from the byte of before
pub byte_over : (B : List ℕ) (es : List Edit) (at : ℕ) → byte_at (overlay B es) at ≡ option_map (unwrap_or (latest es at)) (byte_at B at)
byte_over B es at = latest_wins B es at ∙ over_some (ltb at (length B)) (get_or B at 0) (unwrap_or (latest es at))
