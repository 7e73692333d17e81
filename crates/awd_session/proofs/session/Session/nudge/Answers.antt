use Rattle.std.proofs.Common.{sym, rules, ◌∙◌}
use Rattle.awd_fault.specs.Faults.{report}
use Rattle.awd_session.specs.Edits.{after_edit, nudging}
use Rattle.awd_session.specs.View.{view}
use Rattle.awd_session.proofs.Made.{after_refused}
use Rattle.awd_session.proofs.Stays.{stays_same}
use Rattle.awd_session.proofs.Edited.{Left, nudge_left}
use Rattle.awd_session.proofs.session.Session.nudge.Given.{Over}
use Rattle.awd_session.proofs.session.Session.nudge.Goals as goal
use Rattle.awd_session.proofs.session.Session.nudge.Goals.{After-add}

pub returns-in_err-edit-clause-state : goal.returns-in_err-edit-clause-state
returns-in_err-edit-clause-state g c =
    let a = c.args in
    let s = view a.self.now in
    after_refused s a.number (nudging s a.number a.cell a.content) (report c.in_err-edit.field-0.0) (search rules)

pub returns-in_err-edit-clause-stays : goal.returns-in_err-edit-clause-stays
returns-in_err-edit-clause-stays g c = stays_same (view c.args.self.now)

-- what it leaves
left : (g : Over) (c : After-add g) → let a = c.args in let s = view a.self.now in
    Left a.self.now a.self.now.roster c.add.new.self (after_edit s (nudging s a.number a.cell a.content))
left g c =
    let a = c.args in
    nudge_left a.self.now a.number a.cell a.content c.in_ok-edit.edit (search rules) _ c.add.ensures

pub invariant_of-self : goal.invariant_of-self
invariant_of-self g c = let l = left g (goal.at.invariant_of-self g c).After-add in assumption l

pub returns-clause-state : goal.returns-clause-state
returns-clause-state g c = (left g (goal.at.returns-clause-state g c).After-add).state

pub returns-clause-stays : goal.returns-clause-stays
returns-clause-stays g c = (left g (goal.at.returns-clause-stays g c).After-add).stays

pub returns-clause-roster : goal.returns-clause-roster
returns-clause-roster g c = let l = left g (goal.at.returns-clause-roster g c).After-add in l.records ∙ sym l.before
