use Rattle.std.proofs.Common.{length, sym, subst}
use Rattle.awd_blocks.specs.Lists.{HoldsOne}
use Rattle.awd_blocks.proofs.Rows.{read_holds}
use Rattle.awd_edits.specs.Overlay.{overlay}
use Rattle.awd_session.proofs.session.Session.count.Goals as goal

pub returns-clause-held : goal.returns-clause-held
returns-clause-held g c =
    let s = c.args.self.now in
    let B = overlay (g.S.Source.bytes s.source) s.edits in
    subst (HoldsOne B) (sym c.count.ensures.value) (read_holds B (length s.roster) _ s.taken)
