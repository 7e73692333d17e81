use Rattle.awd_format.proofs.RunLaws.{counted-exact, counted-fault}
use Rattle.awd_format.proofs.entries.counted.Goals as goal

pub returns-clause-exact : goal.returns-clause-exact
returns-clause-exact g c =
    let h = c.args.holder.now in
    counted-exact _ _ (g.met.K.EntryKind.lawful c.args.kind.now) (g.S.Source.bytes h.source.now) h.end h.inside c.args.count c.args.at _ c.row.ensures

pub returns-clause-first : goal.returns-clause-first
returns-clause-first g c =
    let h = c.args.holder.now in
    counted-fault _ _ (g.met.K.EntryKind.lawful c.args.kind.now) (g.S.Source.bytes h.source.now) h.end h.inside c.args.count c.args.at _ c.row.ensures
