use Rattle.std.proofs.Common.{◌≡◌, rules, tests, sym, ◌∙◌, arith}
use Rattle.std.specs.List.{position}
use Rattle.std.proofs.lemmas.Iterator.{YieldsList-from_slice}
use Rattle.std.proofs.lemmas.Iterator.Search.{position_from_yields_List}
use Rattle.awd_source.proofs.Joins.{beyond, outside, all-inside}
use Rattle.awd_source.proofs.pages.Pages.fill.Goals as goal
use Rattle.awd_source.proofs.pages.Pages.fill.Goals.{After-position-outside}

found : (c : After-position-outside) → position (beyond c.args.run.held.now) c.args.list.now ≡ c.position-outside.result
found c = sym (position_from_yields_List (beyond c.args.run.held.now) _ _ _ c.position-outside.ensures.ran (YieldsList-from_slice _ c.iter.ensures.rest) (λ x b q k. search (rules, tests)))

pub returns-in-Some-clause-answer : goal.returns-in-Some-clause-answer
returns-in-Some-clause-answer c =
    let first = found (goal.at.returns-in-Some-clause-answer c).After-position-outside ∙ c.in-Some.is in
    let told = outside c.args.run.held.now c.args.list.now c.args.size c.in-Some.i (omega arith) first in
    cc

pub invariant_of-self : goal.invariant_of-self
invariant_of-self c =
    let none = found (goal.at.invariant_of-self c).After-position-outside ∙ c.in_default.is in
    record { inside = all-inside c.args.run.held.now c.args.list.now none; enough = omega arith }
