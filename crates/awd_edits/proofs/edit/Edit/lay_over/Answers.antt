use Rattle.std.proofs.Common.{◌≡◌, ◌+◌, ◌<◌, length, get_or, ap, ◌∙◌, arith}
use Rattle.awd_edits.specs.Overlay.{bytes_laid}
use Rattle.awd_edits.specs.Spots.{with_spot, spots_over}
use Rattle.awd_places.specs.Laid.{with_byte}
use Rattle.awd_edits.proofs.Spots.{pushed_one, left_out, laid_one}
use Rattle.awd_edits.proofs.edit.Edit.lay_over.Goals as goal
use Rattle.awd_edits.proofs.edit.Edit.lay_over.Goals.{in-Some, in_default}

pub loop-further-preserved : goal.loop-further-preserved
loop-further-preserved c =
    let e = c.args.self.now in
    let k = c.loop-further.further in
    let ls = c.loop-further.bytes in
    let vs = bytes_laid e.laid in
    let same = c.bytes-byte-items.ensures.value in
    let many = ap length same in
    let within : k < length vs = omega arith in
    let few = c.bytes-byte-items.ensures.few in
    let so_far = c.loop-further.invariant.room in
    let room : length ls < 2048 = omega (arith, c.requires) in
    let v = get_or vs k 0 in
    let more : c.match-checked_add.bytes ≡ with_spot ls (e.place + k) v =
    elim c.match-checked_add.branch [
      | in-Some w ↦
          w.bytes-is ∙ w.push.ensures ∙ ap (λ p. with_byte ls p (get_or c.bytes-byte-items.result.now k 0)) w.in-Some.ensures.1
          ∙ ap (λ xs. with_byte ls (e.place + k) (get_or xs k 0)) same ∙ pushed_one ls (e.place + k) v room w.in-Some.ensures.0
      | in_default w ↦ w.bytes-is ∙ left_out ls (e.place + k) v w.in_default.ensures
    ] in
    let comes_to = c.loop-further.invariant.comes_to in
    laid_one c.args.bytes.now ls c.match-checked_add.bytes (spots_over c.args.bytes.now e) e.place vs k within more comes_to so_far
