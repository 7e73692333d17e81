use Rattle.std.proofs.Common.{◌∙◌}
use Rattle.std.proofs.lemmas.Result.{err_from_is_err_and}
use Rattle.awd_fault.specs.Faults.{report}
use Rattle.awd_session.specs.View.{view}
use Rattle.awd_callers.proofs.Firsts.{next_refused, block_taken}
use Rattle.awd_callers.proofs.reparent_first.Goals as goal

pub returns-in_err-next-clause-answer : goal.returns-in_err-next-clause-answer
returns-in_err-next-clause-answer g c =
    let p = err_from_is_err_and c.from_residual-in_err-next.result c.from_residual-in_err-next.ensures.1 in
    rw (p.1, p.2)
    (next_refused (view c.args.session.now) (view c.open.new.self) c.open.ensures.state c.in_ok-open.field-0 c.in_ok-open.ensures.answer c.args.address (report c.in_err-next.field-0.0)
    c.in_err-next.ensures.answer)

pub returns-clause-answer : goal.returns-clause-answer
returns-clause-answer g c =
    c.reparent.ensures.answer
    ∙ block_taken (view c.args.session.now) (view c.open.new.self) c.open.ensures.state c.in_ok-open.field-0 c.in_ok-open.ensures.answer c.args.address (view c.next.new.self) c.in_ok-next.field-0 c.in_ok-next.ensures.answer c.next.ensures.state
