use Rattle.std.proofs.Common.{◌∙◌, sym}
use Rattle.awd_calls.proofs.Numbers.{few_bits}
use Rattle.awd_calls.proofs.parse.content.Goals as goal

pub overflow_cast-branch : goal.overflow_cast-branch
overflow_cast-branch c = few_bits c.args.word.now c.in_ok-bits-in-s.field-0 (sym c.bits.ensures ∙ c.in_ok-bits-in-s.was)
