use Rattle.awd_session.proofs.Taken.{walked}
use Rattle.awd_session.proofs.session.Session.number_of.Goals as goal

pub returns : goal.returns
returns g c =
    let s = c.args.self.now in
    rw (walked s) c.number_of.ensures
