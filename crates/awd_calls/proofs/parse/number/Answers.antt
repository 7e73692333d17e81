use Rattle.std.proofs.Common.{◌∙◌, rules}
use Rattle.awd_calls.proofs.Numbers.{read_decimal}
use Rattle.awd_calls.proofs.parse.number.Goals as goal

pub returns : goal.returns
returns c = c.ok.ensures.value ∙ read_decimal c.args.word.now c.parse.result c.parse.ensures.value.0 (search rules)
