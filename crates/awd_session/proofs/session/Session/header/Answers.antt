use Rattle.awd_session.proofs.Taken.{header_told}
use Rattle.awd_session.proofs.session.Session.header.Goals as goal

pub returns : goal.returns
returns g c =
    let s = c.args.self.now in
    header_told s
