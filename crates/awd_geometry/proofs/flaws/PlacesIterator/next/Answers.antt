use Rattle.std.proofs.Common.{◌<◌, length, rules, arith}
use Rattle.std.proofs.lemmas.Bool.Decides.{nat_tests}
use Rattle.awd_geometry.proofs.Places.{next_is}
use Rattle.awd_geometry.proofs.flaws.PlacesIterator.next.Goals as goal

pub returns : goal.returns
returns g c =
    let m = g.S.Source.bytes c.self.inside.streams.now.run.now in
    let lt : c.self.inside.place < length m = grind (arith, nat_tests) in
    let step = next_is m c.self.inside.place c.next_place-self-inside.result lt c.next_place-self-inside.ensures in
    record { steps = search (rules, step); goes = search (rules, step) }
