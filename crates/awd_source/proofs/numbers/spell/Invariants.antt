use Rattle.std.proofs.Common.{◌≡◌, ◌+◌, ◌-◌, ◌^◌, ◌<◌, ◌≤◌}
use Rattle.awd_source.specs.Bytes.{le, part}
use Rattle.awd_source.proofs.numbers.spell.Given as goal

abbrev pub invariant-loop-further : goal.invariant-loop-further
invariant-loop-further g l =
    (l.further ≤ l.size) × (l.value ≡ le (part (g.S.Source.bytes l.source) (l.at + l.further) (l.size - l.further))) × (l.value < 256 ^ (l.size - l.further))
