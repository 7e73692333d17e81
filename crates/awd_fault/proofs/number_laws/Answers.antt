use Rattle.std.proofs.Common.{arith}
use Rattle.std.proofs.lemmas.Grind.{common_steps}
use denote.Enum.Bare.{same_true}
use Rattle.awd_fault.specs.contracts.Cause.{the_type as cause_type}
use Rattle.awd_fault.specs.contracts.Layer.{the_type as layer_type}
use Rattle.awd_fault.proofs.number_laws.Goals as goal

pub returns-clause-equal : goal.returns-clause-equal
returns-clause-equal c x y e = grind (arith, common_steps, same_true cause_type tt, same_true layer_type tt)
