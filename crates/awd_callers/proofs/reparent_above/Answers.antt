use Rattle.std.proofs.Common.{ap, ◌∙◌}
use Rattle.awd_callers.specs.Edits.{first_reparented}
use Rattle.awd_callers.proofs.reparent_above.Goals as goal

pub returns-clause-answer : goal.returns-clause-answer
returns-clause-answer g c =
    c.reparent_first-edited.ensures.answer ∙ ap (λ s. first_reparented s c.args.address) c.new-upper.ensures.state
