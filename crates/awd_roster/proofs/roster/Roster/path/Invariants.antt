use Rattle.std.proofs.Common.{◌≡◌, ◌+◌, ◌-◌}
use Rattle.awd_roster.specs.Lookups.{climb, path_of}
use Rattle.awd_roster.proofs.roster.Roster.path.Given as goal

abbrev pub invariant-loop-passed : goal.invariant-loop-passed
invariant-loop-passed l = climb l.self l.passed (l.number + 1 - l.passed) l.at ≡ path_of l.self l.number
