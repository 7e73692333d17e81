use Rattle.std.proofs.Common.{◌≡◌, true, ap, ◌∙◌, subst, MatchResult}
use Rattle.awd_header.specs.Header.{Lawful}
use Rattle.awd_fault.specs.Faults.{report}
use Rattle.awd_session.specs.State.{bytes_of}
use Rattle.awd_session.specs.View.{view}
use Rattle.awd_callers.specs.Documents.{Whole, Behind}
use Rattle.awd_session.proofs.Promised.{not_some}
use Rattle.awd_callers.proofs.Endings.{taken_whole, opens, opened_bytes}
use Rattle.awd_callers.proofs.documents.count_blocks.Goals as goal

pub returns : goal.returns
returns g c =
    let B = g.S.Source.bytes c.args.source.now in
    let made = c.new-session.result in
    let over = ap (λ s. g.S.Source.bytes s.now) c.new-session.ensures.source in
    let none = not_some made.header (ap (λ s. s.opened) c.new-session.ensures.state) in
    let right = c.in_ok-open.ensures.right none in
    let lawful : Lawful B = subst Lawful over right.lawful in
    let now-over : bytes_of (view c.open.new.self) ≡ B = opened_bytes (view made) (view c.open.new.self) c.open.ensures.state ∙ ap bytes_of c.new-session.ensures.state in
    let opened : (view c.open.new.self).opened ≡ true = ap (λ s. s.opened) c.open.ensures.state ∙ opens (view made) c.in_ok-open.field-0 c.in_ok-open.ensures.answer in
    taken_whole B lawful c.take_all.result (subst (λ b. MatchResult c.take_all.result (λ n. Whole b n) (λ f. Behind b (report f))) now-over (c.take_all.ensures opened))
