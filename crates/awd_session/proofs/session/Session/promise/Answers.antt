use Rattle.std.proofs.Common.{◌≤◌, subst, sym}
use Rattle.awd_edits.proofs.Lays.{length_overlay}
use Rattle.awd_session.specs.View.{view}
use Rattle.awd_session.proofs.Taken.{opened_long}
use Rattle.awd_session.proofs.Promised.{not_some, promised}
use Rattle.awd_session.proofs.session.Session.promise.Goals as goal

pub returns : goal.returns
returns g c =
    let s = c.args.self.now in
    let B = g.S.Source.bytes s.source in
    promised (view s) _ s.taken
    (λ opened. subst (λ n. 12 ≤ n) (sym (length_overlay B s.edits)) (opened_long B s.header opened s.told))
    (λ shut. let none = not_some s.header shut in (s.closed none, s.unedited none))
    (subst (λ n. n ≤ 512) c.count.ensures.value c.count.ensures.fits)
    (subst (λ n. n ≤ 256) c.count-2.ensures.value c.count-2.ensures.fits)
