use Rattle.std.proofs.Common.{Err, ap, rules, ◌∙◌, take}
use Rattle.awd_session.proofs.Changes.{place_answer}
use Rattle.awd_session.proofs.session.Session.place_in.Goals as goal

pub returns-in-Ok : goal.returns-in-Ok
returns-in-Ok g c =
    let a = c.args in
    let s = a.self.now in
    place_answer s c.in_ok-header.header (search rules) a.number c.in_ok-block.block (search rules) a.field _ (c.in-Ok.ensures (take a.number s.roster))

pub returns-in-Err : goal.returns-in-Err
returns-in-Err g c =
    let a = c.args in
    let s = a.self.now in
    ap Err c.of_call-in-Err.ensures
    ∙ place_answer s c.in_ok-header.header (search rules) a.number c.in_ok-block.block (search rules) a.field _ (c.in-Err.ensures (take a.number s.roster))
