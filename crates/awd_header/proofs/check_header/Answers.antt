use Rattle.std.proofs.Common.{rules}
use Rattle.awd_header.proofs.Lawful.{judged-right}
use Rattle.awd_header.proofs.check_header.Goals as goal

pub returns-in_err-check_size-clause-right : goal.returns-in_err-check_size-clause-right
returns-in_err-check_size-clause-right g c = judged-right _ _ (search rules)

pub returns-in_err-check_magic-clause-right : goal.returns-in_err-check_magic-clause-right
returns-in_err-check_magic-clause-right g c = judged-right _ _ (search rules)

pub returns-clause-right : goal.returns-clause-right
returns-clause-right g c = judged-right _ _ (search rules)
