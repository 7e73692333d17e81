use Rattle.awd_session.specs.View.{view}
use Rattle.awd_session.proofs.Stays.{stays_same}
use Rattle.awd_session.proofs.session.Session.open.Goals as goal

pub returns-then-is_some-clause-stays : goal.returns-then-is_some-clause-stays
returns-then-is_some-clause-stays g c = stays_same (view c.args.self.now)
