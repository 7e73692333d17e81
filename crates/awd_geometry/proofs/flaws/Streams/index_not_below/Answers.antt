use Rattle.std.proofs.Common.{◌≡◌, rules}
use Rattle.awd_source.specs.Bytes.{part}
use Rattle.awd_geometry.specs.Flaws.{size_at}
use Rattle.awd_geometry.proofs.Faces.{found_is}
use Rattle.awd_geometry.proofs.flaws.Streams.index_not_below.Goals as goal

pub returns-clause-found : goal.returns-clause-found
returns-clause-found g c =
    let m = g.S.Source.bytes c.args.self.now.run.now in
    let f = c.args.faces in
    let at = c.content_at-content.result in
    let w = c.new-indices.result in
    let shown = c.new-indices.ensures in
    let W = part (g.S.Source.bytes w.below.now) w.start w.size in
    let window : W ≡ part m at (size_at m f) = search rules in
    let found = found_is m W c.args.limit f at c.content_at-content.ensures.place window c.first_not_below.result c.first_not_below.ensures.inside c.first_not_below.ensures.found in
    search (rules, found)
