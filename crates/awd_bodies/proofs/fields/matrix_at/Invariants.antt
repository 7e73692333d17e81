use Rattle.std.proofs.Common.{◌≡◌, ◌-◌, ◌<◌, ◌≤◌}
use Rattle.awd_format.specs.Shapes.{read_of}
use Rattle.awd_header.specs.Widths.{width_size}
use Rattle.awd_bodies.specs.Fields.{numbers, matrix}
use Rattle.awd_bodies.proofs.fields.matrix_at.Given as goal

abbrev pub invariant-loop : goal.invariant-loop
invariant-loop g l =
    let B = g.S.Source.bytes l.holder.source.now in
    let w = width_size l.width in
    (read_of (numbers (12 - l.counter) w) B l.place l.holder.end ≡ read_of (matrix w) B l.at l.holder.end)
    × (l.at ≤ l.place) × (0 < l.counter → l.place ≤ l.holder.end)
