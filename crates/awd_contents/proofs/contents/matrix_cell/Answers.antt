use Rattle.std.proofs.Common.{Some, sym, ap, rules, ◌∙◌}
use Rattle.awd_source.specs.Bytes.{le, part}
use Rattle.awd_blocks.specs.Records.{matrix_width}
use Rattle.awd_contents.specs.Contents.{content_of, cell_place}
use Rattle.awd_contents.proofs.Placed.{standing_at}
use Rattle.awd_contents.proofs.contents.matrix_cell.Goals as goal

pub returns : goal.returns
returns g c =
    let B = g.S.Source.bytes c.args.source.now in
    let r = c.args.block.now in
    let flags = c.args.header.now.flags in
    let width = matrix_width flags B r.place in
    let size-is = c.from-bytes.ensures ∙ c.bytes.ensures ∙ c.matrix_width-width.ensures in
    let spelled = c.spelled_at.ensures.value ∙ ap (λ n. le (part B c.in_ok-place.place n)) size-is in
    let found = standing_at B (λ bytes. content_of width (le bytes)) width (cell_place flags B r c.args.cell) c.in_ok-place.place (search rules) in
    ap Some (c.from_bits.ensures ∙ ap (λ n. content_of n c.spelled_at.result) c.matrix_width-width.ensures ∙ ap (content_of width) spelled) ∙ sym found
