-- Edits that may stand still may where any of them is taken away, from whatever place in their order; what the blocks tell then.
use Rattle.std.proofs.Common.{◌≡◌, ⊎_elim, ℕ, zero, suc, ◌<◌, true, List, [], ◌∷◌, ◌++◌, Some, Ok, Option, sym, refl, ap, ◌∙◌, arith}
use Rattle.std.proofs.lemmas.Bool.{and_parts, and_from, cases_order}
use Rattle.awd_source.specs.Bytes.{le, part}
use Rattle.awd_roster.specs.declared.record.Record.{Record}
use Rattle.awd_roster.specs.Table.{reparented}
use Rattle.awd_blocks.specs.Lists.{Walk, read_blocks}
use Rattle.awd_edits.specs.declared.edit.Edit.{Edit}
use Rattle.awd_edits.specs.declared.edit.Field.{Field}
use Rattle.awd_edits.specs.declared.edit.Field.TheVariants.{Parent, Material, Cell}
use Rattle.awd_edits.specs.Overlay.{bytes_laid, overlay}
use Rattle.awd_changes.specs.Standing.{may_lie, may_stand}
use Rattle.awd_changes.proofs.Laid.{lies, records_after, told_back}
use Rattle.awd_changes.proofs.Standing.{told_under, under, same-walk}

-- of two parents given to one block the later shows
given_twice : (rs : List Record) (k : ℕ) (u v : Option ℕ) → reparented (reparented rs k u) k v ≡ reparented rs k v
given_twice [] k u v = refl
given_twice (r ∷ rs) zero u v = refl
given_twice (r ∷ rs) (suc k) u v = ap (λ xs. r ∷ xs) (given_twice rs k u v)

-- and parents of two blocks are given in either order
given_apart : (rs : List Record) (j k : ℕ) (u v : Option ℕ) → (j ≡ k → ⊥) → reparented (reparented rs j u) k v ≡ reparented (reparented rs k v) j u
given_apart [] j k u v apart = refl
given_apart (r ∷ rs) zero zero u v apart = absurd (apart refl)
given_apart (r ∷ rs) zero (suc k) u v apart = refl
given_apart (r ∷ rs) (suc j) zero u v apart = refl
given_apart (r ∷ rs) (suc j) (suc k) u v apart = ap (λ xs. r ∷ xs) (given_apart rs j k u v (λ same. apart (ap suc same)))

-- records that are the same once a number stands in a field
abbrev SameBut : Field → ℕ → List Record → List Record → Type 0
SameBut f k rs ss = (v : ℕ) → records_after f rs k v ≡ records_after f ss k v

twice : (f : Field) (rs : List Record) (k x v : ℕ) → records_after f (records_after f rs k x) k v ≡ records_after f rs k v
twice Parent rs k x v = given_twice rs k (Some x) (Some v)
twice (Material i) rs k x v = refl
twice (Cell c) rs k x v = refl

-- still are where another field of both has another number
same_on : (f g : Field) (k j y : ℕ) (rs ss : List Record) → SameBut f k rs ss → SameBut f k (records_after g rs j y) (records_after g ss j y)
same_on f (Material i) k j y rs ss same = same
same_on f (Cell c) k j y rs ss same = same
same_on (Material i) Parent k j y rs ss same = λ v. ap (λ xs. reparented xs j (Some y)) (same v)
same_on (Cell c) Parent k j y rs ss same = λ v. ap (λ xs. reparented xs j (Some y)) (same v)
same_on Parent Parent k j y rs ss same =
    let apart : (j ≡ k → ⊥) → SameBut Parent k (reparented rs j (Some y)) (reparented ss j (Some y)) =
    λ other v. given_apart rs j k (Some y) (Some v) other ∙ ap (λ xs. reparented xs j (Some y)) (same v) ∙ sym (given_apart ss j k (Some y) (Some v) other) in
    ⊎_elim
    (λ (here : j ≡ k).
    λ v. ap (λ i. reparented (reparented rs i (Some y)) k (Some v)) here ∙ given_twice rs k (Some y) (Some v) ∙ same v
    ∙ sym (given_twice ss k (Some y) (Some v)) ∙ ap (λ i. reparented (reparented ss i (Some y)) k (Some v)) (sym here))
    (⊎_elim
    (λ (before : j < k). apart (λ is. omega (arith, is, before)))
    (λ (behind : k < j). apart (λ is. omega (arith, is, behind))))
    (cases_order j k)

-- so edits with one more among them and without it come to the same there
told_without : (rs : List Record) (later : List Edit) (e : Edit) (es : List Edit)
    → SameBut e.field e.block (told_under rs (later ++ e ∷ es)) (told_under rs (later ++ es))
told_without rs [] e es = λ v. twice e.field (told_under rs es) e.block (le (bytes_laid e.laid)) v
told_without rs (d ∷ later) e es =
    same_on e.field d.field e.block d.block (le (bytes_laid d.laid)) (told_under rs (later ++ e ∷ es)) (told_under rs (later ++ es))
    (told_without rs later e es)

-- any of the edits that may stand may lie, and the others may stand
pub one_of : (S : List ℕ) (later : List Edit) (e : Edit) (es : List Edit) (n : ℕ) → may_stand S (later ++ e ∷ es) n ≡ true
    → (may_lie S n e ≡ true) × (may_stand S (later ++ es) n ≡ true)
one_of S [] e es n is = and_parts (may_lie S n e) (may_stand S es n) is
one_of S (d ∷ later) e es n is =
    let (may, rest) = and_parts (may_lie S n d) (may_stand S (later ++ e ∷ es) n) is in
    let (lies-e, others) = one_of S later e es n rest in
    (lies-e, and_from (may_lie S n d) (may_stand S (later ++ es) n) may others)

-- one edit less: the blocks tell what is then at the places
pub read_without : (S : List ℕ) (later : List Edit) (e : Edit) (es : List Edit) (n : ℕ) (w : Walk) → may_stand S (later ++ e ∷ es) n ≡ true
    → read_blocks (overlay S (later ++ e ∷ es)) n ≡ Ok w
    → read_blocks (overlay S (later ++ es)) n
    ≡ Ok (record { records = records_after e.field w.records e.block (le (part (overlay S (later ++ es)) e.place 4)); end = w.end })
read_without S later e es n w is read =
    let (may, others) = one_of S later e es n is in
    let O = overlay S (later ++ es) in
    let u = under S (later ++ e ∷ es) n is in
    let t = under S (later ++ es) n others in
    let on-field = lies O n t.now e t.read_now (t.lie e ∙ may) in
    let old = le (part O e.place 4) in
    let is-w : w ≡ u.now = same-walk w u.now (sym read ∙ u.read_now) in
    let bare : u.bare ≡ t.bare = same-walk u.bare t.bare (sym u.read_bare ∙ t.read_bare) in
    let records-u : w.records ≡ told_under t.bare.records (later ++ e ∷ es) =
    ap (λ (v : Walk). v.records) is-w ∙ u.records ∙ ap (λ v. told_under v.records (later ++ e ∷ es)) bare in
    let records : records_after e.field w.records e.block old ≡ t.now.records =
    ap (λ rs. records_after e.field rs e.block old) records-u
    ∙ told_without t.bare.records later e es old
    ∙ ap (λ rs. records_after e.field rs e.block old) (sym (t.records))
    ∙ sym (twice e.field t.now.records e.block (le (bytes_laid e.laid)) old)
    ∙ told_back O n t.now e t.read_now on-field in
    let end : w.end ≡ t.now.end = ap (λ (v : Walk). v.end) is-w ∙ u.end ∙ ap (λ (v : Walk). v.end) bare ∙ sym t.end in
    t.read_now ∙ ap (λ rs. Ok (record { records = rs; end = t.now.end })) (sym records)
    ∙ ap (λ q. Ok (record { records = records_after e.field w.records e.block old; end = q })) (sym end)
