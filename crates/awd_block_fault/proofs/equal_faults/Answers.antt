use Rattle.std.proofs.Common.{arith}
use Rattle.std.proofs.lemmas.Grind.{common_steps}
use denote.Enum.Bare.{same_true}
use Rattle.awd_fault.specs.contracts.Cause.{the_type}
use Rattle.awd_block_fault.proofs.equal_faults.Goals as goal

pub returns-clause-equal : goal.returns-clause-equal
returns-clause-equal c x y e = grind (arith, common_steps, same_true the_type tt)
