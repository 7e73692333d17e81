-- The records that a roster has. Assumes nothing.
use Rattle.std.specs.Prelude.{ℕ, zero, suc, cond, List, [], ◌∷◌, ◌++◌, length, map, None, Option, nat_lt}
use Rattle.awd_roster.specs.declared.record.Record.{Record}

-- one record more, where there are fewer than 512
abbrev pub added : List Record → Record → List Record
added rs r = cond (nat_lt (length rs) 512) (rs ++ r ∷ []) rs

-- a record with another parent
abbrev pub with_parent : Record → Option ℕ → Record
with_parent r parent =
    record { id = r.id; namespace = r.namespace; kind = r.kind; place = r.place; size = r.size; parent = parent; name = r.name }

-- the record of a number with another parent, and the others as they are
abbrev pub reparented : List Record → ℕ → Option ℕ → List Record
reparented [] number parent = []
reparented (r ∷ rs) zero parent = with_parent r parent ∷ rs
reparented (r ∷ rs) (suc n) parent = r ∷ reparented rs n parent

-- what records tell but for their parents
abbrev pub but_parents : List Record → List Record
but_parents rs = map (λ r. with_parent r None) rs
