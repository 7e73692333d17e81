use Rattle.std.proofs.Common.{◌≡◌, Ok, Err, sym, ap, rules, ◌∙◌}
use Rattle.std.specs.Int.{w32, to_le_bytes}
use Rattle.awd_fault.specs.Faults.{answer, report}
use Rattle.awd_edits.specs.declared.edit.Laid.TheVariants.{Four}
use Rattle.awd_session.specs.Edits.{about, place_in, address_on, address_edit, with_room}
use Rattle.awd_session.specs.View.{view}
use Rattle.awd_session.proofs.Made.{refused_place, address_lawful, no_room, is_room}
use Rattle.awd_session.proofs.session.Session.address_edit.Given.{Over}
use Rattle.awd_session.proofs.session.Session.address_edit.Goals as goal
use Rattle.awd_session.proofs.session.Session.address_edit.Goals.{After-room}

pub returns-in_err-place : goal.returns-in_err-place
returns-in_err-place g c =
    let s = view c.args.self.now in
    let a = c.args in
    let f = c.in_err-place.field-0.0 in
    let told : answer c.from_residual.result ≡ Err (report f) = search rules in
    told ∙ refused_place a.number (place_in s a.number a.field) (address_on s a.number a.field a.address) (report f) (search rules)

-- the edit that is asked for, where the address may stand there
lawful : (g : Over) (c : After-room g) → let a = c.args in let s = view a.self.now in
    with_room s (record { block = a.number; field = a.field; place = c.in_ok-place.place.at; laid = Four (to_le_bytes w32 a.address) })
    ≡ address_edit s a.number a.field a.address
lawful g c =
    let a = c.args in
    let p = c.in_ok-place.place in
    sym (address_lawful (view a.self.now) a.number a.field a.address p.at p.size (search rules)
    (sym c.may_hold.ensures ∙ c.if-not-may_hold.false))

pub returns-in_err-room : goal.returns-in_err-room
returns-in_err-room g c =
    let s = view c.args.self.now in
    let f = c.in_err-room.field-0.0 in
    let told : answer c.from_residual-in_err-room.result ≡ Err (report f) = search rules in
    told ∙ no_room s c.args.number _ (report f) (search rules) ∙ ap (about c.args.number) (lawful g (goal.at.returns-in_err-room g c).After-room)

pub returns : goal.returns
returns g c =
    let a = c.args in
    let p = c.in_ok-place.place in
    let room = is_room (view a.self.now) a.number _ c.in_ok-room.field-0 (search rules) in
    ap (λ bytes. Ok (record { block = a.number; field = a.field; place = p.at; laid = Four bytes })) c.to_le_bytes.ensures
    ∙ ap (about a.number) (sym room ∙ lawful g (goal.at.returns g c).After-room)
