use Rattle.std.proofs.Common.{ℕ, ◌<◌}
use Rattle.awd_source.proofs.Indices.{index}
use Rattle.awd_source.proofs.numbers.first_not_below.Given as goal

-- the numbers so far are below the limit
abbrev pub invariant-loop-k : goal.invariant-loop-k
invariant-loop-k g l = (j : ℕ) → j < l.k → index (g.S.Source.bytes l.numbers) j < l.limit
