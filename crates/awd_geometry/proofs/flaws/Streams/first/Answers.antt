use Rattle.std.proofs.Common.{rules, tests}
use Rattle.std.proofs.lemmas.Iterator.Consumers.{YieldsList-from_first}
use Rattle.std.proofs.lemmas.Iterator.Search.{find_from_yields_List}
use Rattle.awd_geometry.specs.Streams.{stream_number}
use Rattle.awd_geometry.specs.Flaws.{has_type}
use Rattle.awd_geometry.proofs.flaws.Streams.first.Goals as goal

pub returns-clause-first : goal.returns-clause-first
returns-clause-first g c =
    let m = g.S.Source.bytes c.args.self.now.run.now in
    let places = YieldsList-from_first (λ x. x) (λ rest. rest) _ c.places.ensures in
    let found = find_from_yields_List (has_type m (stream_number c.args.stream_type)) _ _ c.find.result c.find.ensures.ran places (λ x b q k. search (rules, tests)) in
    search (rules, found)
