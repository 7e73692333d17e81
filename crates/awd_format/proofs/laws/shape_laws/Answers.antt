use Rattle.awd_format.specs.Shapes.{SetOf}
use Rattle.awd_format.proofs.FaultPlaces.{shape-placed}
use Rattle.awd_format.proofs.FirstFaults.{shape-first, shape-only}
use Rattle.awd_format.proofs.Locality.{shape-ahead, shape-local}
use Rattle.awd_format.proofs.SetLaws.{one-cutting}
use Rattle.awd_format.proofs.ShapeLaws.{shape-reads, shape_free}
use Rattle.awd_format.proofs.laws.shape_laws.Goals as goal

pub returns : goal.returns
returns c = record {
  exact = shape-reads;
  first = shape-first;
  only = shape-only;
  prefix_free = shape_free;
  forward = shape-ahead;
  fault_inside = shape-placed;
  local = shape-local;
  one_cutting = λ entry filled. one-cutting (λ i. SetOf (entry i)) filled (λ i. shape_free (entry i));
}
