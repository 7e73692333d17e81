use Rattle.awd_session.proofs.Taken.{walked}
use Rattle.awd_session.proofs.session.Session.may_hold.Goals as goal

pub returns-in-Parent : goal.returns-in-Parent
returns-in-Parent g c = rw (walked c.args.self.now, c.in-Parent.is) c.lawful_before.ensures

pub returns-in-Material : goal.returns-in-Material
returns-in-Material g c = rw (walked c.args.self.now, c.in-Material.is) c.lawful_before-in-Material.ensures
