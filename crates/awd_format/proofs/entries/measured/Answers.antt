use Rattle.std.proofs.Common.{Ok, rules}
use Rattle.awd_format.proofs.RunLaws.{measured-exact, measured-fault}
use Rattle.awd_format.proofs.entries.measured.Goals as goal

pub returns-in_err-filling-clause-exact : goal.returns-in_err-filling-clause-exact
returns-in_err-filling-clause-exact g c =
    let h = c.args.holder.now in
    measured-exact _ _ (g.met.K.EntryKind.lawful c.args.kind.now) (g.S.Source.bytes h.source.now) c.args.at h.end h.inside c.args.size _ (search rules)

pub returns-in_err-filling-clause-first : goal.returns-in_err-filling-clause-first
returns-in_err-filling-clause-first g c =
    let h = c.args.holder.now in
    measured-fault _ _ (g.met.K.EntryKind.lawful c.args.kind.now) (g.S.Source.bytes h.source.now) c.args.at h.end h.inside c.args.size _ (search rules)

pub returns-clause-exact : goal.returns-clause-exact
returns-clause-exact g c =
    let h = c.args.holder.now in
    measured-exact _ _ (g.met.K.EntryKind.lawful c.args.kind.now) (g.S.Source.bytes h.source.now) c.args.at h.end h.inside c.args.size (Ok c.in_ok-filling.field-0) (search rules)
