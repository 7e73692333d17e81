use Rattle.std.proofs.Common.{◌≡◌, Err, rules, ◌∙◌}
use Rattle.awd_fault.specs.Faults.{answer, report}
use Rattle.awd_edits.specs.declared.edit.Field.TheVariants.{Cell}
use Rattle.awd_session.specs.Edits.{place_in, content_on}
use Rattle.awd_session.specs.View.{view}
use Rattle.awd_session.proofs.Made.{refused_place}
use Rattle.awd_session.proofs.session.Session.cell_edit.Goals as goal

pub returns-in_err-place : goal.returns-in_err-place
returns-in_err-place g c =
    let s = view c.args.self.now in
    let a = c.args in
    let f = c.in_err-place.field-0.0 in
    let told : answer c.from_residual.result ≡ Err (report f) = search rules in
    told ∙ refused_place a.number (place_in s a.number (Cell a.cell)) (content_on s a.number a.cell a.content) (report f) (search rules)
