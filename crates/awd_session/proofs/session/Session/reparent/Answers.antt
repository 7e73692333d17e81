use Rattle.std.proofs.Common.{Some, sym, ap, rules, ◌∙◌}
use Rattle.awd_fault.specs.Faults.{report}
use Rattle.awd_roster.specs.Table.{reparented}
use Rattle.awd_session.specs.Edits.{after_edit, reparenting}
use Rattle.awd_session.specs.View.{view}
use Rattle.awd_session.proofs.Made.{after_refused}
use Rattle.awd_session.proofs.Stays.{stays_same}
use Rattle.awd_session.proofs.Edited.{Left, reparent_left}
use Rattle.awd_session.proofs.session.Session.reparent.Given.{Over}
use Rattle.awd_session.proofs.session.Session.reparent.Goals as goal
use Rattle.awd_session.proofs.session.Session.reparent.Goals.{After-reparent}

pub returns-in_err-edit-clause-state : goal.returns-in_err-edit-clause-state
returns-in_err-edit-clause-state g c =
    let a = c.args in
    let s = view a.self.now in
    after_refused s a.number (reparenting s a.number a.address) (report c.in_err-edit.field-0.0) (search rules)

pub returns-in_err-edit-clause-stays : goal.returns-in_err-edit-clause-stays
returns-in_err-edit-clause-stays g c = stays_same (view c.args.self.now)

-- what it leaves
left : (g : Over) (c : After-reparent g) → let a = c.args in let s = view a.self.now in
    Left a.self.now c.reparent.new.self c.add.new.self (after_edit s (reparenting s a.number a.address))
left g c =
    let a = c.args in
    reparent_left a.self.now a.number a.address c.ranges.address.fits c.in_ok-edit.edit (search rules) _ c.reparent.ensures _ c.add.ensures

pub invariant_of-self : goal.invariant_of-self
invariant_of-self g c = let l = left g (goal.at.invariant_of-self g c).After-reparent in assumption l

pub returns-clause-state : goal.returns-clause-state
returns-clause-state g c = (left g (goal.at.returns-clause-state g c).After-reparent).state

pub returns-clause-stays : goal.returns-clause-stays
returns-clause-stays g c = (left g (goal.at.returns-clause-stays g c).After-reparent).stays

pub returns-clause-roster : goal.returns-clause-roster
returns-clause-roster g c =
    let l = left g (goal.at.returns-clause-roster g c).After-reparent in
    l.records ∙ c.reparent.ensures ∙ ap (λ rs. reparented rs c.args.number (Some c.args.address)) (sym l.before)
