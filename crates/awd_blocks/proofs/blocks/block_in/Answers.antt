use Rattle.std.proofs.Common.{◌≡◌, ◌+◌, ◌<◌, Ok, sym, subst, arith}
use Rattle.std.proofs.lemmas.Option.{IfSome_then}
use Rattle.awd_source.specs.Fields.{bytes_at}
use Rattle.awd_format.specs.Shapes.{read_of, entry_of}
use Rattle.awd_header.specs.Widths.{sizes}
use Rattle.awd_blocks.specs.Heads.{block_header}
use Rattle.awd_blocks.specs.Blocks.{body_of}
use Rattle.awd_blocks.proofs.Names.{name_inside}
use Rattle.awd_blocks.proofs.Steps.{block_whole}
use Rattle.awd_blocks.proofs.blocks.block_in.Goals as goal

pub record-requires : goal.record-requires
record-requires g c =
    let head = c.in_ok-head.head in
    let body = c.up_to.result in
    let inside = name_inside (g.E.Earlier.records c.args.earlier.now) (sizes c.widths-widths.result) head.namespace head.kind head.size (g.S.Source.bytes body.source.now) head.body body.end c.in_ok-behind.behind
    (omega (arith, c.in_ok-end.ensures.fits, c.up_to.ensures.end, c.in_ok-head.ensures.parts)) body.inside c.in_ok-behind.ensures in
    IfSome_then _ {Q = λ q. q + 2 < 18446744073709551616} inside (λ q k. omega (arith, k, body.fits))

pub returns : goal.returns
returns g c =
    let head = c.in_ok-head.head in
    let (is, inside) = c.in_ok-head.ensures.parts in
    let S = g.S.Source.bytes in
    let before = g.E.Earlier.records c.args.earlier.now in
    let B = S c.args.document.now.source.now in
    let end = c.in_ok-behind.behind in
    let L = body_of before (sizes c.widths-widths.result) head.namespace head.kind head.size in
    let same : end ≡ c.in_ok-end.end = c.if-behind-end.false in
    let stop : c.up_to.result.end ≡ end = omega (arith, same, c.up_to.ensures.end, c.in_ok-end.ensures.fits) in
    block_whole c.args.header.flags before B c.args.at end head (sizes c.widths-widths.result) is c.widths-widths.ensures
    (subst (λ n. Ok head.body ≡ entry_of (block_header before) B c.args.at n) c.requires c.in_ok-head.ensures.read)
    (subst (λ n. Ok end ≡ bytes_at head.body n head.size) c.requires (subst (λ e. Ok e ≡ bytes_at head.body c.args.document.now.end head.size) (sym same) c.in_ok-end.ensures.read))
    (subst (λ s. Ok end ≡ read_of L (S s.now) head.body end) c.up_to.ensures.source (subst (λ n. Ok end ≡ read_of L (S c.up_to.result.source.now) head.body n) stop c.in_ok-behind.ensures))
    c.record.result c.record.ensures
