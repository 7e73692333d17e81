use Rattle.std.proofs.Common.{◌≡◌, Ok, sym, ap, ◌∙◌, rules}
use Rattle.awd_fault.specs.Faults.{report}
use Rattle.awd_session.specs.State.{next_answer}
use Rattle.awd_session.specs.View.{view}
use Rattle.awd_session.proofs.Asked.{one_on, none_stays, none_last, fault_last}
use Rattle.awd_codes.specs.Records.{no_fault, outcome_code}
use Rattle.awd_codes.proofs.listings.take_all.Goals as goal

pub returns-in-Ok-None-clause-state : goal.returns-in-Ok-None-clause-state
returns-in-Ok-None-clause-state g c =
    let s = view c.loop.session in
    let is = sym (ap Ok c.in-Ok-None.field-0-is) ∙ c.in-Ok-None.ensures.answer in
    c.in-Ok-None.ensures.state ∙ none_stays s is ∙ none_last (view c.args.session.now) s c.loop.counter c.loop.invariant is

pub returns-in-Ok-None-clause-fault : goal.returns-in-Ok-None-clause-fault
returns-in-Ok-None-clause-fault g c =
    let s = view c.loop.session in
    let is = sym (ap Ok c.in-Ok-None.field-0-is) ∙ c.in-Ok-None.ensures.answer in
    let none : c.default.result ≡ no_fault = search rules in
    none ∙ ap outcome_code (is ∙ ap next_answer (sym (c.in-Ok-None.ensures.state ∙ none_stays s is)))

pub returns-in-Err-clause-state : goal.returns-in-Err-clause-state
returns-in-Err-clause-state g c =
    let s = view c.loop.session in
    ap (λ x. view x) c.in-Err.ensures.same ∙ fault_last (view c.args.session.now) s c.loop.counter c.loop.invariant (report c.in-Err.fault) c.in-Err.ensures.answer

pub returns-in-Err-clause-fault : goal.returns-in-Err-clause-fault
returns-in-Err-clause-fault g c =
    c.of.ensures ∙ ap outcome_code (c.in-Err.ensures.answer ∙ ap (λ x. next_answer (view x)) (sym c.in-Err.ensures.same))

pub loop-preserved : goal.loop-preserved
loop-preserved g c =
    let is = sym (ap Ok c.in-Ok-Some.field-0-is) ∙ c.in-Ok-Some.ensures.answer in
    (one_on (view c.args.session.now) (view c.loop.session) (view c.next.new.self) c.loop.counter c.in-Ok-Some.field-0-0 c.loop.invariant is c.in-Ok-Some.ensures.state).0
