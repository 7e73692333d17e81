-- Attributes are not empty, so runs of them are lawful.
use Rattle.std.specs.Prelude.{ℕ, []}
use Rattle.awd_format.specs.Shapes.{SetOf, Filled}
use Rattle.awd_format.proofs.SetLaws.{filled-then}
use Rattle.awd_attributes.specs.Attributes.{numeric, user, properties, user_list}

pub numeric-filled : (i : ℕ) → (SetOf (numeric i) [] → ⊥) × Filled (numeric i)
numeric-filled i = (filled-then 1 _, λ key size. tt)

pub user-filled : (i : ℕ) → (SetOf (user i) [] → ⊥) × Filled (user i)
user-filled i = (filled-then 0 _, λ namespace. (λ n. tt, λ type size. tt))

pub properties-filled : (SetOf properties [] → ⊥) × Filled properties
properties-filled = (filled-then 3 _, λ total. numeric-filled)

pub user-list-filled : (SetOf user_list [] → ⊥) × Filled user_list
user-list-filled = (filled-then 3 _, λ total. user-filled)
