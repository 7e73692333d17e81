use Rattle.std.proofs.Common.{◌≡◌, ◌++◌}
use Rattle.awdreplay.specs.Copies.{backwards}
use Rattle.awdreplay.proofs.copies.backwards.Given as goal

-- what is listed, and then what is left
abbrev pub invariant-loop-page : goal.invariant-loop-page
invariant-loop-page l = l.list.items ++ backwards l.page ≡ backwards l.count
