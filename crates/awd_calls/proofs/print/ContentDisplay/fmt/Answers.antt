use Rattle.std.proofs.Common.{rules}
use Rattle.awd_calls.proofs.Hexadecimal.{padded_hexadecimal}
use Rattle.awd_calls.proofs.print.ContentDisplay.fmt.Goals as goal

pub returns-in-Single-clause-writes : goal.returns-in-Single-clause-writes
returns-in-Single-clause-writes g c = rw c.in-Single.is (search (rules, padded_hexadecimal))

pub returns-in-Double-clause-writes : goal.returns-in-Double-clause-writes
returns-in-Double-clause-writes g c = rw c.in-Double.is (search (rules, padded_hexadecimal))
