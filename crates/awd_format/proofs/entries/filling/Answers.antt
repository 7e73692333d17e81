use Rattle.std.proofs.Common.{arith}
use Rattle.std.proofs.lemmas.Grind.{common_steps}
use Rattle.awd_format.proofs.Steps.{filling-ok}
use Rattle.awd_format.proofs.entries.filling.Goals as goal

pub loop-index-preserved : goal.loop-index-preserved
loop-index-preserved g c =
    let fits = c.in_ok-place.ensures.fits in
    (omega arith, omega arith, grind (arith, common_steps, filling-ok))
