use Rattle.std.proofs.Common.{◌-◌, ◌≤◌, rules}
use Rattle.awd_source.proofs.Digits.{below_cut}
use Rattle.awd_source.proofs.numbers.spelled_short.Goals as goal

pub returns-clause-below : goal.returns-clause-below
returns-clause-below g c =
    let left = c.length-length.result - c.min-start.result in
    let few : left ≤ c.args.size.bytes = search rules in
    below_cut left c.args.size.bytes c.spell.result few c.spell.ensures.below
