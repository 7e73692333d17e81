use Rattle.std.proofs.Common.{◌<◌, length, reverse, ap, rules, arith}
use Rattle.std.proofs.lemmas.List.{length-reverse}
use Rattle.awd_edits.proofs.Spots.{length_spots}
use Rattle.awd_edits.proofs.table.Edits.add.Goals as goal

pub lay_over-requires : goal.lay_over-requires
lay_over-requires c =
    let x = c.self.inside in
    let room : length x.standing.items < 256 = search rules in
    let few = length_spots (reverse x.standing.items) c.self.invariant.1 in
    let kept = ap length c.self.invariant.0 in
    let many = length-reverse x.standing.items in
    omega arith
