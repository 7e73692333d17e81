use Rattle.std.proofs.Common.{◌+◌, ◌*◌, ◌<◌, ◌≤◌, length, arith}
use Rattle.awd_source.proofs.Indices.{index, none_is, first_is}
use Rattle.awd_source.proofs.numbers.first_not_below.Goals as goal

pub returns-then-spell-limit-clause-found : goal.returns-then-spell-limit-clause-found
returns-then-spell-limit-clause-found g c =
    let m = g.S.Source.bytes c.args.numbers.now in
    let k = c.loop-k.k in
    let there : 2 * k + 1 < length m = omega (arith, c.length-k-end.ensures) in
    let large : c.args.limit ≤ index m k = omega (arith, c.spell.ensures.value) in
    first_is c.args.limit m k there large c.loop-k.invariant

pub returns-clause-found : goal.returns-clause-found
returns-clause-found g c =
    let m = g.S.Source.bytes c.args.numbers.now in
    none_is c.args.limit m (λ j h. c.loop-k.invariant j (omega (arith, h, c.length-k-end.ensures)))
