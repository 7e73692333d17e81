-- The table of the first blocks with an ID stays right when a block more comes.
use Rattle.std.proofs.Common.{◌≡◌, ◌≢◌, ℕ, zero, suc, ◌+◌, ◌<◌, ◌≤◌, Bool, true, false, not, cond, ltb, eqb, List, [], ◌∷◌, ◌++◌, length, set, Some, None, Option, refl, sym, ap, ◌∙◌, arith}
use Rattle.std.specs.Prelude.{position, slice_get, slice_index, slice_set, take, ◌||◌}
use Rattle.std.specs.List.{position_or_len}
use Rattle.std.specs.List.{list_any}
use Rattle.std.specs.Option.{option_or}
use Rattle.std.proofs.lemmas.Bool.{cond_both, eqb-true, eqb-false}
use Rattle.std.proofs.lemmas.List.{length_push, length-set, get_or-set_same, get_or-set_other, set_past}
use Rattle.std.proofs.lemmas.Option.{same_Some}
use Rattle.std.proofs.lemmas.List.Folds.{position_or_len_push}
use Rattle.std.proofs.lemmas.List.Sums.{prefix_len-le-length, fold-append}
use Rattle.awd_roster.specs.declared.record.Record.{Record}
use Rattle.awd_roster.specs.declared.record.Target.{Target}
use Rattle.awd_roster.specs.Addresses.{named, fits}
use Rattle.awd_roster.specs.Sequence.{persistent}
use Rattle.awd_roster.specs.FirstBlocks.{noted, FirstNoted, noting}

-- by the first place, of which one more element may be the first
at_the_end : (l n : ℕ) (b : Bool) → l ≤ n
    → cond (ltb (cond (eqb l n) (n + cond b 0 1) l) (n + 1)) (Some (cond (eqb l n) (n + cond b 0 1) l)) None ≡ option_or (cond (ltb l n) (Some l) None) (cond b (Some n) None)
at_the_end l n true h = grind (arith, h)
at_the_end l n false h = grind (arith, h)

-- the first place at which one element more passes
position_push : {X : Type 0} (p : X → Bool) (xs : List X) (y : X)
    → position p (xs ++ y ∷ []) ≡ option_or (position p xs) (cond (p y) (Some (length xs)) None)
position_push p xs y = rw (position_or_len_push p xs y, length_push xs y) (at_the_end (position_or_len p xs) (length xs) (p y) (prefix_len-le-length (λ x. not (p x)) xs))

-- none after none is none
or_none : {X : Type 0} (o : Option X) → option_or o None ≡ o
or_none None = refl
or_none (Some x) = refl

-- a table's entry for the ID of the block that comes, and its entries for others
own_entry : (table : List ℕ) (k n : ℕ) (o : Option ℕ) → k < length table → slice_index table k ≡ noted o
    → slice_index (cond (eqb (slice_index table k) 0) (set table k (n + 1)) table) k ≡ noted (option_or o (Some n))
own_entry table k n None h e = rw e (get_or-set_same table k (n + 1) 0 h)
own_entry table k n (Some m) h e = let b : eqb (m + 1) 0 ≡ false = grind arith in rw (e, b) e

other_entry : (table : List ℕ) (b : Bool) (j k v : ℕ) → k ≢ j → slice_index (cond b (set table j v) table) k ≡ slice_index table k
other_entry table true j k v apart = get_or-set_other table j k v 0 apart
other_entry table false j k v apart = refl

entry : (table : List ℕ) (id n k : ℕ) (o : Option ℕ) → k < length table → slice_index table k ≡ noted o
    → slice_index (noting table id n) k ≡ noted (option_or o (cond (eqb id (k + 1)) (Some n) None))
entry table zero n k o h e = let b : eqb 0 (k + 1) ≡ false = grind arith in rw b (e ∙ ap noted (sym (or_none o)))
entry table (suc j) n k o h e =
    cond_both {A = ℕ} (eqb j k) 0 0 (λ _. slice_index (noting table (suc j) n) k ≡ noted (option_or o (cond (eqb (suc j) (k + 1)) (Some n) None)))
    (λ same. let is = eqb-true j k same in let b : eqb (suc j) (k + 1) ≡ true = grind (arith, is) in rw b (rw is (own_entry table k n o h e)))
    (λ apart. let other = eqb-false j k apart in let b : eqb (suc j) (k + 1) ≡ false = grind (arith, other) in rw b (other_entry table (eqb (slice_index table j) 0) j k (n + 1) (omega (arith, other)) ∙ e ∙ ap noted (sym (or_none o))))

-- as long as before
pub length_noting : (table : List ℕ) (id n : ℕ) → length (noting table id n) ≡ length table
length_noting table zero n = refl
length_noting table (suc k) n = cond_both (eqb (slice_index table k) 0) (set table k (n + 1)) table (λ t. length t ≡ length table) (λ _. length-set table k (n + 1)) (λ _. refl)

-- with one block more
pub noted_push : (table : List ℕ) (rs : List Record) (r : Record) → FirstNoted table rs → FirstNoted (noting table r.id (length rs)) (rs ++ r ∷ [])
noted_push table rs r all k h =
    let within : k < length table = omega (arith, h, length_noting table r.id (length rs)) in
    let p = λ (x : Record). eqb x.id (k + 1) in
    entry table r.id (length rs) k (position p rs) within (all k within) ∙ ap noted (sym (position_push p rs r))

-- what is written for an ID that was not noted, and that another changes nothing
pub noting_first : (table : List ℕ) (id n k : ℕ) → id ≡ k + 1 → slice_index table k ≡ 0 → slice_set table k (n + 1) ≡ noting table id n
noting_first table zero n k is e = absurd (omega (arith, is))
noting_first table (suc j) n k is e = let same : j ≡ k = omega (arith, is) in rw (same, e) refl

pub noting_again : (table : List ℕ) (id n k : ℕ) → id ≡ k + 1 → slice_index table k ≢ 0 → table ≡ noting table id n
noting_again table zero n k is other = absurd (omega (arith, is))
noting_again table (suc j) n k is other = let same : j ≡ k = omega (arith, is) in let b : eqb (slice_index table k) 0 ≡ false = grind (arith, other) in rw (same, b) refl

pub noting_past : (table : List ℕ) (id n k : ℕ) → id ≡ k + 1 → length table ≤ k → table ≡ noting table id n
noting_past table zero n k is past = absurd (omega (arith, is))
noting_past table (suc j) n k is past =
    let same : j ≡ k = omega (arith, is) in
    rw same (cond_both (eqb (slice_index table k) 0) (set table k (n + 1)) table (λ t. table ≡ t) (λ _. sym (set_past table k (n + 1) past)) (λ _. refl))

-- one of the first n passes where the one of a number below n does
yes_or : (b c : Bool) → c ≡ true → (b || c) ≡ true
yes_or true c e = refl
yes_or false c e = e

any_at : {X : Type 0} (p : X → Bool) (xs : List X) (n k : ℕ) (x : X) → k < n → slice_get xs k ≡ Some x → p x ≡ true → list_any p (take n xs) ≡ true
any_at p [] n k x h at e = absurd (cc at)
any_at p (y ∷ ys) zero k x h at e = absurd (omega (arith, h))
any_at p (y ∷ ys) (suc n) zero x h at e = let is : p y ≡ true = ap p (same_Some y x at) ∙ e in rw is refl
any_at p (y ∷ ys) (suc n) (suc k) x h at e = yes_or (p y) (list_any p (take n ys)) (any_at p ys n k x (omega (arith, h)) at e)

pub named_at : (target : Target) (id n k : ℕ) (rs : List Record) (r : Record) → k < n → slice_get rs k ≡ Some r → fits target id r ≡ true → named target id (take n rs) ≡ true
named_at target id n k rs r h at e = any_at (fits target id) rs n k r h at e

-- one more that is not temporary
pub persistent_more : (rs ss : List Record) (r : Record) (n : ℕ) → n ≡ persistent rs + 1 → ss ≡ rs ++ r ∷ [] → r.id ≢ 0 → n + 1 ≡ persistent ss + 1
persistent_more rs ss r n next is more =
    let b : eqb r.id 0 ≡ false = grind (arith, more) in
    let counted : persistent ss ≡ persistent rs + 1 = ap persistent is ∙ fold-append _ 0 rs (r ∷ []) ∙ rw b refl in
    omega (arith, next, counted)
