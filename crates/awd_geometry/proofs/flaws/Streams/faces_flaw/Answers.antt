use Rattle.std.proofs.Common.{rules}
use Rattle.awd_header.specs.Widths.{width_size}
use Rattle.awd_geometry.proofs.Faces.{judged}
use Rattle.awd_geometry.proofs.flaws.Streams.faces_flaw.Goals as goal

pub returns-clause-flaw : goal.returns-clause-flaw
returns-clause-flaw g c =
    let m = g.S.Source.bytes c.args.self.now.run.now in
    let width = width_size c.args.self.now.width in
    let flaw = judged m width c.in_ok-faces.faces c.in-Some.vertices c.vertex_count.result c.in_ok-faces.ensures.first c.in-Some.ensures.first c.vertex_count.ensures c.index_not_below.result c.index_not_below.ensures.found in
    search (rules, flaw)
