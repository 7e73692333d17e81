use Rattle.std.proofs.Common.{◌≡◌, ◌-◌, length}
use Rattle.awd_attributes.proofs.Walks.{Walked}
use Rattle.awd_callers.proofs.walks.count_attributes.Given as goal

abbrev pub invariant-loop-count : goal.invariant-loop-count
invariant-loop-count l =
    (l.reader.part.held.now ≡ l.part) × (l.count ≡ l.reader.index) × Walked l.part l.reader.at l.reader.index

abbrev pub decreases-loop-count : goal.decreases-loop-count
decreases-loop-count l = length l.part - l.reader.at
