use Rattle.std.proofs.Common.{rules, tests}
use Rattle.std.proofs.lemmas.Iterator.Consumers.{YieldsList-from_first, YieldsList-from_filter, YieldsList-at, nth_from_yields_List}
use Rattle.awd_geometry.specs.Streams.{stream_number}
use Rattle.awd_geometry.specs.Flaws.{has_type}
use Rattle.awd_geometry.proofs.flaws.Streams.repeated.Goals as goal

pub returns-clause-second : goal.returns-clause-second
returns-clause-second g c =
    let m = g.S.Source.bytes c.args.self.now.run.now in
    let places = YieldsList-from_first (λ x. x) (λ rest. rest) _ c.places.ensures in
    let found = nth_from_yields_List c.nth.result c.nth.new.self _ c.nth.ensures.ran
    (YieldsList-from_filter {s = c.filter.result} _ (has_type m (stream_number c.args.stream_type)) (YieldsList-at c.filter.ensures.source places) c.filter.ensures.closure (λ x b q k. search (rules, tests))) in
    search (rules, found)
