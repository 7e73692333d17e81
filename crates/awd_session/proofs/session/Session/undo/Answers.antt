use Rattle.std.proofs.Common.{rules}
use Rattle.awd_fault.specs.Faults.{report}
use Rattle.awd_session.specs.Edits.{after_undo}
use Rattle.awd_session.specs.View.{view}
use Rattle.awd_session.proofs.Stays.{stays_same}
use Rattle.awd_session.proofs.Edited.{Left, parent_left, other_left, after_not_undone}
use Rattle.awd_session.proofs.session.Session.undo.Given.{Over}
use Rattle.awd_session.proofs.session.Session.undo.Goals as goal
use Rattle.awd_session.proofs.session.Session.undo.Goals.{After-reparent, In_default}

pub returns-in_err-edit-clause-state : goal.returns-in_err-edit-clause-state
returns-in_err-edit-clause-state g c = after_not_undone (view c.args.self.now) (report c.in_err-edit.field-0.0) (search rules)

pub returns-in_err-edit-clause-stays : goal.returns-in_err-edit-clause-stays
returns-in_err-edit-clause-stays g c = stays_same (view c.args.self.now)

-- what it leaves where it shows another parent again
parent : (g : Over) (c : After-reparent g) → Left c.args.self.now c.reparent.new.self c.undo.new.self (after_undo (view c.args.self.now))
parent g c =
    parent_left c.args.self.now c.in_ok-edit.edit (search rules) c.in-Parent.is c.spelled_at-parent.result (search rules) _ c.reparent.ensures _
    c.undo.ensures

-- and where it does not
other : (g : Over) (c : In_default g) → Left c.args.self.now c.args.self.now.roster c.undo.new.self (after_undo (view c.args.self.now))
other g c = other_left c.args.self.now c.in_ok-edit.edit (search rules) c.in_default.not-Parent _ c.undo.ensures

pub invariant_of-self : goal.invariant_of-self
invariant_of-self g c = let l = parent g (goal.at.invariant_of-self g c).After-reparent in assumption l

pub invariant_of-self-in_default : goal.invariant_of-self-in_default
invariant_of-self-in_default g c = let l = other g (goal.at.invariant_of-self-in_default g c).In_default in assumption l

pub returns-in-Parent-clause-state : goal.returns-in-Parent-clause-state
returns-in-Parent-clause-state g c = (parent g (goal.at.returns-in-Parent-clause-state g c).After-reparent).state

pub returns-in-Parent-clause-stays : goal.returns-in-Parent-clause-stays
returns-in-Parent-clause-stays g c = (parent g (goal.at.returns-in-Parent-clause-stays g c).After-reparent).stays

pub returns-in_default-clause-stays : goal.returns-in_default-clause-stays
returns-in_default-clause-stays g c = (other g (goal.at.returns-in_default-clause-stays g c).In_default).stays
