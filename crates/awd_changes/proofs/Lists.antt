-- Lists of blocks where bytes are the same, and where one block is changed.
use Rattle.std.proofs.Common.{◌≡◌, ℕ, zero, suc, ◌+◌, ◌-◌, ◌<◌, ◌≤◌, List, [], ◌∷◌, ◌++◌, length, get_or, take, Some, None, Ok, Option, sym, refl, ap, ◌∙◌, subst, arith, length-append, append-nil, append_assoc}
use Rattle.std.specs.Prelude.{slice_get}
use lib.Seq.{take-append_seam}
use Rattle.std.proofs.lemmas.List.{get_or_at}
use Rattle.std.proofs.lemmas.Option.{slice_get_within, get_or_from_slice_get}
use Rattle.std.proofs.lemmas.Result.{IfOk-at_ok}
use Rattle.awd_block_fault.specs.Faults.{on}
use Rattle.awd_format.proofs.Locality.{inner}
use Rattle.awd_header.specs.Header.{flags_of}
use Rattle.awd_roster.specs.declared.record.Record.{Record}
use Rattle.awd_roster.specs.Table.{with_parent, reparented, but_parents}
use Rattle.awd_roster.proofs.Kin.{kin_more, reparented_front}
use Rattle.awd_blocks.specs.Heads.{size_at, body_at}
use Rattle.awd_blocks.specs.Blocks.{block_at}
use Rattle.awd_blocks.specs.Records.{record_at}
use Rattle.awd_blocks.specs.Lists.{and_at, Walk, read_from, read_blocks}
use Rattle.awd_blocks.proofs.Next.{next_at, read-end}
use Rattle.awd_blocks.proofs.Rows.{first-read}
use Rattle.awd_changes.proofs.Kept.{block_kept}

-- a block, and the list behind it
pub one_more : (B : List ℕ) (n : ℕ) (before : List Record) (at e : ℕ) (w : Walk) → next_at B before at ≡ Ok e
    → read_from B n (and_at before B at) e ≡ Ok w → read_from B (suc n) before at ≡ Ok w
one_more B n before at e w first rest = ap (λ r. on (λ x. x) r (λ e. read_from B n (and_at before B at) e)) first ∙ rest

-- a list of blocks ends where it begins or further on
pub list_ends : (B : List ℕ) (n : ℕ) (before : List Record) (at : ℕ) (w : Walk) → read_from B n before at ≡ Ok w → at ≤ w.end
list_ends B zero before at w is = IfOk-at_ok (λ (w : Walk). at ≤ w.end) is (omega arith)
list_ends B (suc n) before at w is =
    let (e, first, rest) = first-read B n before at w is in
    omega (arith, read-end B before at e first, list_ends B n (and_at before B at) e w rest)

-- each of its blocks tells something
pub list_many : (B : List ℕ) (n : ℕ) (before : List Record) (at : ℕ) (w : Walk) → read_from B n before at ≡ Ok w
    → length w.records ≡ length before + n
list_many B zero before at w is = IfOk-at_ok (λ (w : Walk). length w.records ≡ length before + zero) is (omega arith)
list_many B (suc n) before at w is =
    let (e, first, rest) = first-read B n before at w is in
    omega (arith, list_many B n (and_at before B at) e w rest, length-append before (record_at (flags_of B) B at ∷ []))

-- another list of blocks tells the same as this, behind other records
pub record SameList (C : List ℕ) (n : ℕ) (before before' : List Record) (at : ℕ) (w : Walk) : Type 0 where
  -- what they tell
  pub told : List Record
  pub records : w.records ≡ before ++ told
  pub read : read_from C n before' at ≡ Ok (record { records = before' ++ told; end = w.end })

module _ (B C : List ℕ) (long : length B ≡ length C) (flags : flags_of B ≡ flags_of C) where
  -- where all bytes of a list of blocks are the same, it is read again, behind records that are the same but for their parents
  pub list_kept : (n : ℕ) (before before' : List Record) (at : ℕ) (w : Walk) → read_from B n before at ≡ Ok w
      → ((i : ℕ) → at ≤ i → i < w.end → get_or B i 0 ≡ get_or C i 0)
      → but_parents before ≡ but_parents before' → SameList C n before before' at w
  list_kept zero before before' at w is same kin =
      IfOk-at_ok (λ (w : Walk). SameList C zero before before' at w) is
      (record { told = []; records = sym (append-nil before); read = ap (λ rs. Ok (record { records = rs; end = at })) (sym (append-nil before')) })
  list_kept (suc n) before before' at w is same kin =
      let (e, first, rest) = first-read B n before at w is in
      let low = read-end B before at e first in
      let high = list_ends B n (and_at before B at) e w rest in
      let (again, told) = block_kept (flags_of B) before before' B C at e first long (inner B C at w.end at e same (omega arith) high) kin in
      let r = record_at (flags_of B) B at in
      let s = record_at (flags_of C) C at in
      let s-is : s ≡ r = ap (λ f. record_at f C at) (sym flags) ∙ told in
      let kin' = kin_more before before' r s kin (ap (λ x. with_parent x None) (sym s-is)) in
      let same' = inner B C at w.end e w.end same (omega (arith, low)) (omega arith) in
      let more = list_kept n (and_at before B at) (and_at before' C at) e w rest same' kin' in
      let records = append_assoc before' (s ∷ []) more.told ∙ ap (λ x. before' ++ x ∷ more.told) s-is in
      record {
        told = r ∷ more.told;
        records = more.records ∙ append_assoc before (r ∷ []) more.told;
        read = one_more C n before' at e _ (ap (λ f. block_at f before' C at) (sym flags) ∙ again) more.read
            ∙ ap (λ rs. Ok (record { records = rs; end = w.end })) records;
      }

-- a list of blocks read in two parts
read_parts : (B : List ℕ) (n k m : ℕ) → n ≡ k + m → (before : List Record) (at : ℕ) (w : Walk) → read_from B n before at ≡ Ok w
    → (u : Walk) × (read_from B k before at ≡ Ok u) × (read_from B m u.records u.end ≡ Ok w)
read_parts B n zero m many before at w is =
    (record { records = before; end = at }, refl, subst (λ j. read_from B j before at ≡ Ok w) (omega arith) is)
read_parts B zero (suc k) m many before at w is = absurd (omega arith)
read_parts B (suc n) (suc k) m many before at w is =
    let (e, first, rest) = first-read B n before at w is in
    let (u, front, back) = read_parts B n k m (omega arith) (and_at before B at) e w rest in
    (u, one_more B k before at e u first front, back)

-- and read on behind the first
read_joined : (B : List ℕ) (n k m : ℕ) → n ≡ k + m → (before : List Record) (at : ℕ) (u w : Walk)
    → read_from B k before at ≡ Ok u → read_from B m u.records u.end ≡ Ok w → read_from B n before at ≡ Ok w
read_joined B n zero m many before at u w front back =
    let on = IfOk-at_ok (λ (u : Walk). read_from B m u.records u.end ≡ Ok w → read_from B m before at ≡ Ok w) front (λ b. b) in
    subst (λ j. read_from B j before at ≡ Ok w) (omega arith) (on back)
read_joined B zero (suc k) m many before at u w front back = absurd (omega arith)
read_joined B (suc n) (suc k) m many before at u w front back =
    let (e, first, rest) = first-read B k before at u front in
    one_more B n before at e w first (read_joined B n k m (omega arith) (and_at before B at) e u w rest back)

-- what the blocks of a list tell comes behind what was told before
told_behind : (B : List ℕ) (n : ℕ) (before : List Record) (at : ℕ) (w : Walk) → read_from B n before at ≡ Ok w
    → (rs : List Record) × (w.records ≡ before ++ rs)
told_behind B n before at w is =
    let again = list_kept B B refl refl n before before at w is (λ i l h. refl) refl in
    (again.told, again.records)

-- of a list of n blocks, that of a number
pub record BlockOf (B : List ℕ) (n : ℕ) (w : Walk) (k : ℕ) (r : Record) : Type 0 where
  -- as many come before it as its number says
  pub below : k < n
  pub many : length (take k w.records) ≡ k
  -- it is read behind those, from its place to an end
  pub end : ℕ
  pub read : block_at (flags_of B) (take k w.records) B r.place ≡ Ok end
  pub ends : end ≡ body_at r.place + r.size
  pub told : r ≡ record_at (flags_of B) B r.place
  pub low : 12 ≤ r.place
  pub high : end ≤ w.end
  -- those before it, and those behind it
  pub front : read_blocks B k ≡ Ok (record { records = take k w.records; end = r.place })
  pub rest : read_from B (n - suc k) (and_at (take k w.records) B r.place) end ≡ Ok w

-- where a list was cut before its block of a number
cut_before : (B : List ℕ) (n k : ℕ) (w u : Walk) → k < n → read_blocks B k ≡ Ok u → read_from B (suc (n - suc k)) u.records u.end ≡ Ok w
    → (r : Record) → slice_get w.records k ≡ Some r → BlockOf B n w k r
cut_before B n k w u below front back r found =
    let (e, first, rest) = first-read B (n - suc k) u.records u.end w back in
    let count : length u.records ≡ k = omega (arith, list_many B k [] 12 u front) in
    let t = record_at (flags_of B) B u.end in
    let (ts, all) = told_behind B (n - suc k) (and_at u.records B u.end) e w rest in
    let parts : w.records ≡ u.records ++ t ∷ ts = all ∙ append_assoc u.records (t ∷ []) ts in
    let before : take k w.records ≡ u.records =
    ap (take k) parts ∙ ap (λ j. take j (u.records ++ t ∷ ts)) (sym count) ∙ take-append_seam u.records (t ∷ ts) in
    let told : r ≡ t = sym (get_or_from_slice_get w.records k r r found) ∙ ap (λ rs. get_or rs k r) parts ∙ get_or_at u.records t ts r k count in
    let place : r.place ≡ u.end = ap (λ (x : Record). x.place) told in
    let size : r.size ≡ size_at B u.end = ap (λ (x : Record). x.size) told in
    record {
      below = below;
      many = ap length before ∙ count;
      end = e;
      read = rw (before, place) first;
      ends = omega (arith, read-end B u.records u.end e first, place, size);
      told = told ∙ ap (record_at (flags_of B) B) (sym place);
      low = omega (arith, list_ends B k [] 12 u front, place);
      high = list_ends B (n - suc k) (and_at u.records B u.end) e w rest;
      front = rw (before, place) front;
      rest = rw (before, place) rest;
    }

-- the block of a number stands behind those before it, at the place that it tells
pub block_of : (B : List ℕ) (n : ℕ) (w : Walk) (k : ℕ) (r : Record)
    → read_blocks B n ≡ Ok w → slice_get w.records k ≡ Some r → BlockOf B n w k r
block_of B n w k r is found =
    let below : k < n = omega (arith, slice_get_within w.records k r found, list_many B n [] 12 w is) in
    let (u, front, back) = read_parts B n k (suc (n - suc k)) (omega arith) [] 12 w is in
    cut_before B n k w u below front back r found

-- One block is changed, and all bytes outside it are as before.
module _ (B C : List ℕ) (long : length B ≡ length C) (flags : flags_of B ≡ flags_of C)
    (n : ℕ) (w : Walk) (k : ℕ) (r : Record) (b : BlockOf B n w k r) where
  -- where it is read to the same end behind the same blocks, and tells the same but for another parent, so does the list
  pub list_changed : ((i : ℕ) → i < r.place → get_or B i 0 ≡ get_or C i 0) → ((i : ℕ) → b.end ≤ i → get_or B i 0 ≡ get_or C i 0)
      → block_at (flags_of C) (take k w.records) C r.place ≡ Ok b.end
      → (parent : Option ℕ) → record_at (flags_of C) C r.place ≡ with_parent (record_at (flags_of B) B r.place) parent
      → read_blocks C n ≡ Ok (record { records = reparented w.records k parent; end = w.end })
  list_changed ahead behind first parent told =
      let rs = take k w.records in
      let t = record_at (flags_of B) B r.place in
      let t' = record_at (flags_of C) C r.place in
      let front = list_kept B C long flags k [] [] 12 (record { records = rs; end = r.place }) b.front (λ i l h. ahead i h) refl in
      let start = front.read ∙ ap (λ xs. Ok (record { records = xs; end = r.place })) (sym front.records) in
      let kin = kin_more rs rs t t' refl (ap (λ x. with_parent x None) (sym told)) in
      let rest = list_kept B C long flags (n - suc k) (and_at rs B r.place) (and_at rs C r.place) b.end w b.rest (λ i l h. behind i l) kin in
      let all : w.records ≡ rs ++ t ∷ rest.told = rest.records ∙ append_assoc rs (t ∷ []) rest.told in
      let records : and_at rs C r.place ++ rest.told ≡ reparented w.records k parent =
      append_assoc rs (t' ∷ []) rest.told ∙ ap (λ x. rs ++ x ∷ rest.told) told ∙ sym (reparented_front rs rest.told t parent)
      ∙ ap (λ j. reparented (rs ++ t ∷ rest.told) j parent) b.many ∙ ap (λ xs. reparented xs k parent) (sym all) in
      let joined = one_more C (n - suc k) rs r.place b.end _ first rest.read in
      read_joined C n k (suc (n - suc k)) (omega (arith, b.below)) [] 12 (record { records = rs; end = r.place }) _ start joined
      ∙ ap (λ xs. Ok (record { records = xs; end = w.end })) records
