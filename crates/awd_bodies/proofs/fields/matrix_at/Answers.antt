use Rattle.std.proofs.Common.{◌≡◌, ◌+◌, ◌*◌, ◌≤◌, Ok, Err, ◌∙◌, sym, arith, rules}
use Rattle.std.proofs.lemmas.Result.{err_from_is_err_and}
use Rattle.awd_header.specs.Widths.{width_size}
use Rattle.awd_bodies.proofs.Matrices.{cell-step, cells-all, cells-fit}
use Rattle.awd_bodies.proofs.fields.matrix_at.Goals as goal

pub returns-in_err-place-clause-read : goal.returns-in_err-place-clause-read
returns-in_err-place-clause-read g c =
    let x = c.in_err-place.field-0.0 in
    let p = err_from_is_err_and c.from_residual.result c.from_residual.ensures.1 in
    rw (p.1, p.2) (sym (cell-step _ _ (width_size c.args.width) 12 c.loop.counter c.loop.place c.loop-test.true (Err x) (search rules)) ∙ c.loop.invariant.0)

pub loop-preserved : goal.loop-preserved
loop-preserved g c =
    let e = c.in_ok-place.place in
    let fits = c.in_ok-place.ensures.fits in
    (sym (cell-step _ _ (width_size c.args.width) 12 c.loop.counter c.loop.place c.loop-test.true (Ok e) (search rules)) ∙ c.loop.invariant.0, omega arith, λ h. omega arith)

pub returns-clause-read : goal.returns-clause-read
returns-clause-read g c =
    let there = c.loop.invariant.2 (omega arith) in
    cells-all _ _ _ 12 c.loop.counter c.loop.place c.loop-test.false (omega arith) ∙ c.loop.invariant.0

pub returns-then-size-holder-clause-read : goal.returns-then-size-holder-clause-read
returns-then-size-holder-clause-read g c =
    let w = width_size c.args.width in
    let m = 12 * c.from-size.result in
    let is : m ≡ 12 * w = search rules in
    let fits : c.args.at + m ≤ c.args.holder.now.end = omega arith in
    cells-fit _ c.args.holder.now.end w 12 c.args.at m is fits
