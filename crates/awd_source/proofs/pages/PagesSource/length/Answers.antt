use Rattle.std.proofs.Common.{arith}
use Rattle.awd_source.proofs.Joins.{length-paged}
use Rattle.awd_source.proofs.pages.PagesSource.length.Goals as goal

pub returns : goal.returns
returns c =
    let p = c.args.self.now in
    let same = length-paged p.run.held.now p.list.now p.inside p.size p.enough in
    omega arith
