-- Records that tell the same but for their parents: what they agree on. And a record with another parent among others.
use Rattle.std.proofs.Common.{◌≡◌, ◌<◌, ◌≤◌, ℕ, zero, suc, ◌==◌, ◌||◌, ◌+◌, cond, not, List, [], ◌∷◌, ◌++◌, length, take, Option, Some, None, sym, refl, ap, ◌∙◌, arith}
use Rattle.std.specs.Prelude.{slice_get, slice_set, slice_index_or}
use Rattle.std.proofs.lemmas.List.{length-map, map_push, take-map}
use Rattle.std.proofs.lemmas.List.Folds.{fold-map}
use Rattle.std.proofs.lemmas.Option.{same_Some}
use Rattle.awd_roster.specs.declared.record.Record.{Record}
use Rattle.awd_roster.specs.declared.record.Target.{Target}
use Rattle.awd_roster.specs.Addresses.{may_be_none, named, fits, lawful_address}
use Rattle.awd_roster.specs.Sequence.{persistent, in_sequence}
use Rattle.awd_roster.specs.Table.{with_parent, reparented, but_parents}

-- a record but for its parent
abbrev apart : Record → Record
apart r = with_parent r None

-- what asks for no parents is the same of records that agree but for their parents
kin : {X : Type 0} (told : List Record → X) → ((rs : List Record) → told (but_parents rs) ≡ told rs)
    → (rs ss : List Record) → but_parents rs ≡ but_parents ss → told rs ≡ told ss
kin told blind rs ss same = sym (blind rs) ∙ ap told same ∙ blind ss

-- how many are not temporary asks for no parents
persistent-blind : (rs : List Record) → persistent (but_parents rs) ≡ persistent rs
persistent-blind rs = fold-map (λ n r. n + cond (not (r.id == 0)) 1 0) apart 0 rs

-- whether an ID is that of one that may be named asks for no parents
named-blind : (target : Target) (id : ℕ) (rs : List Record) → named target id (but_parents rs) ≡ named target id rs
named-blind target id [] = refl
named-blind target id (r ∷ rs) = ap (λ b. fits target id r || b) (named-blind target id rs)

-- they are as many
pub length_kin : (rs ss : List Record) → but_parents rs ≡ but_parents ss → length rs ≡ length ss
length_kin rs ss same = kin length (λ xs. length-map xs apart) rs ss same

-- as many of them are not temporary
pub persistent_kin : (rs ss : List Record) → but_parents rs ≡ but_parents ss → persistent rs ≡ persistent ss
persistent_kin rs ss same = kin persistent persistent-blind rs ss same

-- the same IDs may come after them
pub sequence_kin : (rs ss : List Record) → but_parents rs ≡ but_parents ss → (id : ℕ) → in_sequence rs id ≡ in_sequence ss id
sequence_kin rs ss same id = ap (λ n. id == 0 || id == n + 1) (persistent_kin rs ss same)

-- the same addresses are lawful after them
pub address_kin : (target : Target) (rs ss : List Record) → but_parents rs ≡ but_parents ss
    → (address : ℕ) → lawful_address target rs address ≡ lawful_address target ss address
address_kin target rs ss same address =
    ap (λ b. cond (address == 0) (may_be_none target) b) (kin (named target address) (named-blind target address) rs ss same)

-- one more on each side, if these two agree as well
pub kin_more : (rs ss : List Record) (r s : Record) → but_parents rs ≡ but_parents ss → with_parent r None ≡ with_parent s None
    → but_parents (rs ++ r ∷ []) ≡ but_parents (ss ++ s ∷ [])
kin_more rs ss r s same more = map_push apart rs r ∙ rw (same, more) (sym (map_push apart ss s))

-- the first ones on each side
pub take_kin : (n : ℕ) (rs ss : List Record) → but_parents rs ≡ but_parents ss → but_parents (take n rs) ≡ but_parents (take n ss)
take_kin n rs ss same = sym (take-map apart n rs) ∙ ap (take n) same ∙ take-map apart n ss

-- with another parent for one of them, records are the same but for their parents
pub reparented_kin : (rs : List Record) (n : ℕ) (p : Option ℕ) → but_parents (reparented rs n p) ≡ but_parents rs
reparented_kin [] n p = refl
reparented_kin (r ∷ rs) zero p = refl
reparented_kin (r ∷ rs) (suc n) p = ap (λ xs. apart r ∷ xs) (reparented_kin rs n p)

-- and as many
pub length_reparented : (rs : List Record) (n : ℕ) (p : Option ℕ) → length (reparented rs n p) ≡ length rs
length_reparented rs n p = length_kin (reparented rs n p) rs (reparented_kin rs n p)

-- those before it stay
pub take_reparented : (rs : List Record) (n : ℕ) (p : Option ℕ) → take n (reparented rs n p) ≡ take n rs
take_reparented rs zero p = refl
take_reparented [] (suc n) p = refl
take_reparented (r ∷ rs) (suc n) p = ap (λ xs. r ∷ xs) (take_reparented rs n p)

-- a number that none of them has changes nothing
pub reparented_past : (rs : List Record) (n : ℕ) (p : Option ℕ) → length rs ≤ n → reparented rs n p ≡ rs
reparented_past [] n p h = refl
reparented_past (r ∷ rs) zero p h = absurd (omega (arith, h))
reparented_past (r ∷ rs) (suc n) p h = ap (λ xs. r ∷ xs) (reparented_past rs n p (omega (arith, h)))

-- it is what a write in the place of its number gives
pub reparented_written : (rs : List Record) (n : ℕ) (p : Option ℕ) (r : Record) → n < length rs → r ≡ slice_index_or rs n r
    → slice_set rs n (with_parent r p) ≡ reparented rs n p
reparented_written [] n p r h is = absurd (omega (arith, h))
reparented_written (x ∷ rs) zero p r h is = ap (λ y. with_parent y p ∷ rs) is
reparented_written (x ∷ rs) (suc n) p r h is = ap (λ xs. x ∷ xs) (reparented_written rs n p r (omega (arith, h)) is)

-- it is the one that comes after as many as its number says
pub reparented_front : (rs ts : List Record) (r : Record) (p : Option ℕ)
    → reparented (rs ++ r ∷ ts) (length rs) p ≡ rs ++ with_parent r p ∷ ts
reparented_front [] ts r p = refl
reparented_front (x ∷ rs) ts r p = ap (λ xs. x ∷ xs) (reparented_front rs ts r p)

-- its number has the record with the other parent
pub reparented_at : (rs : List Record) (n : ℕ) (p : Option ℕ) (r : Record) → slice_get rs n ≡ Some r
    → slice_get (reparented rs n p) n ≡ Some (with_parent r p)
reparented_at [] n p r at = absurd (cc at)
reparented_at (x ∷ rs) zero p r at = ap (λ y. Some (with_parent y p)) (same_Some x r at)
reparented_at (x ∷ rs) (suc n) p r at = reparented_at rs n p r at

-- the parent that it has changes nothing
pub reparented_same : (rs : List Record) (n : ℕ) (r : Record) → slice_get rs n ≡ Some r → reparented rs n r.parent ≡ rs
reparented_same [] n r at = refl
reparented_same (x ∷ rs) zero r at = ap (λ y. with_parent x y.parent ∷ rs) (sym (same_Some x r at))
reparented_same (x ∷ rs) (suc n) r at = ap (λ xs. x ∷ xs) (reparented_same rs n r at)

-- the parent that it had brings the records back
pub reparented_back : (rs : List Record) (n : ℕ) (p : Option ℕ) (r : Record) → slice_get rs n ≡ Some r
    → reparented (reparented rs n p) n r.parent ≡ rs
reparented_back [] n p r at = refl
reparented_back (x ∷ rs) zero p r at = ap (λ y. with_parent x y.parent ∷ rs) (sym (same_Some x r at))
reparented_back (x ∷ rs) (suc n) p r at = ap (λ xs. x ∷ xs) (reparented_back rs n p r at)
