use Rattle.std.proofs.Common.{◌∙◌}
use Rattle.awd_header.specs.Widths.{width_size}
use Rattle.awd_bodies.specs.Skeletons.{joint}
use Rattle.awd_bodies.proofs.Grouped.{group-read}
use Rattle.awd_bodies.proofs.skeletons.skeleton_at.Goals as goal

pub returns : goal.returns
returns g c =
    let B = g.S.Source.bytes c.args.holder.now.source.now in
    c.group_at.ensures ∙ group-read (joint (width_size c.args.width)) B c.args.at c.args.holder.now.end
