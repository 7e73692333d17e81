-- Questions change nothing.
use Rattle.awd_session.specs.View.{view}
use Rattle.awd_session.proofs.Stays.{stays_same}
use Rattle.awd_history.proofs.calls.make.Goals as goal

pub returns-in-Count-clause-stays : goal.returns-in-Count-clause-stays
returns-in-Count-clause-stays g c = stays_same (view c.args.session.now)

pub returns-in-Edits-clause-stays : goal.returns-in-Edits-clause-stays
returns-in-Edits-clause-stays g c = stays_same (view c.args.session.now)

pub returns-in-Record-clause-stays : goal.returns-in-Record-clause-stays
returns-in-Record-clause-stays g c = stays_same (view c.args.session.now)

pub returns-in-NumberOf-clause-stays : goal.returns-in-NumberOf-clause-stays
returns-in-NumberOf-clause-stays g c = stays_same (view c.args.session.now)

pub returns-in-Material-clause-stays : goal.returns-in-Material-clause-stays
returns-in-Material-clause-stays g c = stays_same (view c.args.session.now)

pub returns-in-Cell-clause-stays : goal.returns-in-Cell-clause-stays
returns-in-Cell-clause-stays g c = stays_same (view c.args.session.now)

pub returns-in-Path-clause-stays : goal.returns-in-Path-clause-stays
returns-in-Path-clause-stays g c = stays_same (view c.args.session.now)

pub returns-in-Length-clause-stays : goal.returns-in-Length-clause-stays
returns-in-Length-clause-stays g c = stays_same (view c.args.session.now)

pub returns-in-Byte-clause-stays : goal.returns-in-Byte-clause-stays
returns-in-Byte-clause-stays g c = stays_same (view c.args.session.now)
