use Rattle.std.proofs.Common.{◌≡◌, true, None, Ok, is_some, subst, rules, ◌∙◌, arith}
use Rattle.std.proofs.lemmas.Result.{err_from_is_err_and}
use Rattle.awd_fault.specs.Faults.{report, answer}
use Rattle.awd_blocks.specs.Lists.{HoldsOne}
use Rattle.awd_session.specs.Laws.{NextRight}
use Rattle.awd_session.specs.State.{bytes_of}
use Rattle.awd_session.specs.View.{view}
use Rattle.awd_callers.proofs.Endings.{refused_behind, ended_whole, bytes_stay, one_more}
use Rattle.awd_callers.proofs.documents.take_all.Goals as goal

pub returns-in_err-next : goal.returns-in_err-next
returns-in_err-next g c = λ opened.
    let B = bytes_of (view c.args.session.now) in
    let n = c.count-taken.result in
    let over = c.loop.invariant.0 in
    let still = (c.loop.invariant.1 opened).0 in
    let p = err_from_is_err_and c.from_residual.result c.from_residual.ensures.1 in
    rw (p.1, p.2)
    (refused_behind B (view c.loop.session) over n c.count-taken.ensures.taken (subst (λ b. HoldsOne b n) over c.count-taken.ensures.held) c.count-taken.ensures.few (report c.in_err-next.field-0.0)
    (c.in_err-next.ensures.right still))

pub returns-then-is_none : goal.returns-then-is_none
returns-then-is_none g c = λ opened.
    let B = bytes_of (view c.args.session.now) in
    let s = view c.loop.session in
    let n = c.count-taken.result in
    let over = c.loop.invariant.0 in
    let none : c.in_ok-next.field-0 ≡ None = search rules in
    ended_whole B s over n c.count-taken.ensures.taken (subst (λ b. HoldsOne b n) over c.count-taken.ensures.held) c.count-taken.ensures.few
    (subst (λ o. NextRight s (answer (Ok o))) none (c.in_ok-next.ensures.right (c.loop.invariant.1 opened).0))

pub loop-preserved : goal.loop-preserved
loop-preserved g c =
    let s = view c.loop.session in
    let t = view c.next.new.self in
    let some : is_some c.in_ok-next.field-0 ≡ true = search rules in
    let (still, more) = one_more s t c.in_ok-next.field-0 c.in_ok-next.ensures.answer some c.next.ensures.state in
    (bytes_stay s t c.next.ensures.state ∙ c.loop.invariant.0, λ opened. (still ∙ (c.loop.invariant.1 opened).0, omega (arith, more, (c.loop.invariant.1 opened).1)))
