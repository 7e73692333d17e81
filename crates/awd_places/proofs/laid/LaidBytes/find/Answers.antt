use Rattle.std.proofs.Common.{reverse, sym, ap, ◌∙◌}
use Rattle.awd_places.specs.Laid.{laid_at}
use Rattle.awd_places.proofs.Covers.{has_byte, has_latest, has_none}
use Rattle.awd_places.proofs.laid.LaidBytes.find.Goals as goal

pub returns-in_err-number : goal.returns-in_err-number
returns-in_err-number c =
    let x = c.self.inside in
    let is = sym c.find.ensures ∙ c.in_err-number.was in
    c.from_residual.ensures ∙ has_none x.places x.shown.items (reverse x.covered.items) c.self.invariant c.args.place is
    ∙ ap (λ ls. laid_at ls c.args.place) c.self.view_is

pub bounds-deref-number : goal.bounds-deref-number
bounds-deref-number c =
    let x = c.self.inside in
    let n = c.in_ok-number.number in
    let is = sym c.find.ensures ∙ c.in_ok-number.was in
    rw c.deref.ensures.0 (has_byte x.places x.shown.items (reverse x.covered.items) c.self.invariant c.args.place n is)

pub returns : goal.returns
returns c =
    let x = c.self.inside in
    let n = c.in_ok-number.number in
    let is = sym c.find.ensures ∙ c.in_ok-number.was in
    rw c.deref.ensures.0
    (has_latest x.places x.shown.items (reverse x.covered.items) c.self.invariant c.args.place n is
    ∙ ap (λ ls. laid_at ls c.args.place) c.self.view_is)
