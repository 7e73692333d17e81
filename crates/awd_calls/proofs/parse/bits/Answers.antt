use Rattle.std.proofs.Common.{◌≡◌, ◌==◌, true, None, length, ◌∙◌, rules, sym}
use Rattle.std.proofs.lemmas.Bool.{cond-true}
use Rattle.awd_calls.proofs.Numbers.{read_hexadecimal}
use Rattle.awd_calls.proofs.parse.bits.Goals as goal

pub returns : goal.returns
returns c =
    let many : (length c.args.word.now == c.args.digits) ≡ true = search rules in
    c.ok.ensures.value ∙ read_hexadecimal c.args.word.now c.from_str_radix.result c.from_str_radix.ensures.value (search rules)
    ∙ sym (cond-true (length c.args.word.now == c.args.digits) _ None many)
