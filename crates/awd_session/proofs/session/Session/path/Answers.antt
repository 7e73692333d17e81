use Rattle.awd_session.proofs.Taken.{walked}
use Rattle.awd_session.proofs.session.Session.path.Goals as goal

pub returns-clause-value : goal.returns-clause-value
returns-clause-value g c =
    let s = c.args.self.now in
    rw (walked s) c.path.ensures.value

pub returns-clause-climbs : goal.returns-clause-climbs
returns-clause-climbs g c =
    let s = c.args.self.now in
    rw (walked s) c.path.ensures.climbs
