use Rattle.std.proofs.Common.{arith}
use Rattle.awd_source.proofs.Joins.{paged-byte}
use Rattle.awd_source.proofs.pages.PagesSource.byte.Goals as goal

pub returns : goal.returns
returns c =
    let p = c.args.self.now in
    let same = paged-byte p.run.held.now p.list.now p.inside p.size p.enough c.args.at (omega arith) in
    cc
