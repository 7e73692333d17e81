-- Steps of a climb from a block up to the root.
use Rattle.std.proofs.Common.{◌≡◌, ℕ, zero, suc, ◌+◌, ◌-◌, ◌≤◌, cond, eqb, List, Some, sym, ap, subst, ◌∙◌, arith}
use Rattle.std.specs.Option.{option_and_then}
use Rattle.std.proofs.lemmas.Bool.{cond_both, eqb-true}
use Rattle.std.proofs.lemmas.Option.{same_Some, option_and_then_some}
use Rattle.awd_roster.specs.declared.record.Record.{Record}
use Rattle.awd_roster.specs.Lookups.{number_of, parent_of, climb, path_of, Climbs}

-- one step up from a block, by what its record says
pub step : (rs : List Record) (n passed at : ℕ) → passed ≤ n → climb rs passed (n + 1 - passed) at ≡ option_and_then (λ address. cond (eqb address 0) (Some passed) (option_and_then (λ parent. climb rs (passed + 1) (n + 1 - (passed + 1)) parent) (number_of rs address))) (parent_of rs at)
step rs n passed at h = let s : n + 1 - passed ≡ suc (n + 1 - (passed + 1)) = omega arith in ap (λ k. climb rs passed k at) s

-- a climb that ends at the root has passed so many parents more
climb-up : (rs : List Record) (fuel passed at n : ℕ) → climb rs passed fuel at ≡ Some n → (k : ℕ) × (n ≡ passed + k) × Climbs rs at k
climb-up rs zero passed at n e = cc
climb-up rs (suc fuel) passed at n e =
    let next = λ (parent : ℕ). climb rs (passed + 1) fuel parent in
    option_and_then_some _ (parent_of rs at) n e (λ address p q.
    cond_both (eqb address 0) (Some passed) (option_and_then next (number_of rs address)) (λ r. r ≡ Some n → (k : ℕ) × (n ≡ passed + k) × Climbs rs at k)
    (λ yes is. (0, omega (arith, same_Some passed n is), p ∙ ap (λ a. Some a) (eqb-true address 0 yes)))
    (λ no' is. option_and_then_some next (number_of rs address) n is (λ up u w. let m = climb-up rs fuel (passed + 1) up n w in (suc m.0, omega (arith, m.1), (address, up, p, u, m.2))))
    q)

pub path_climbs : (rs : List Record) (number n : ℕ) → Some n ≡ path_of rs number → Climbs rs number n
path_climbs rs number n e =
    let m = climb-up rs (number + 1) 0 number n (sym e) in
    let is : m.0 ≡ n = omega (arith, m.1) in
    subst (Climbs rs number) is m.2
