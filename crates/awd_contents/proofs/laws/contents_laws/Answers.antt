use Rattle.awd_contents.proofs.Placed.{materials, cells}
use Rattle.awd_contents.proofs.laws.contents_laws.Goals as goal

pub returns : goal.returns
returns c = record { materials = materials; cells = cells }
