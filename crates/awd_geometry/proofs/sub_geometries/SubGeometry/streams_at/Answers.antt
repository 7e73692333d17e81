use Rattle.std.proofs.Common.{Some}
use Rattle.awd_header.specs.Widths.{width_size}
use Rattle.awd_geometry.proofs.Sound.{streams-judged}
use Rattle.awd_geometry.proofs.sub_geometries.SubGeometry.streams_at.Goals as goal

pub returns-in-Some-clause-read : goal.returns-in-Some-clause-read
returns-in-Some-clause-read g c =
    let shown = c.new-run.ensures in
    let is = c.in_ok-behind.ensures in
    rw c.new.ensures (streams-judged (width_size c.args.self.now.width) c.args.total _ c.args.at _ _ is.read is.fits.0 (Some c.in-Some.flaw) (rw (shown.0, shown.1, shown.2) at c.in-Some.ensures.flaw))
