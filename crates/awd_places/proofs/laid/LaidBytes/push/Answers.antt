use Rattle.std.proofs.Common.{◌≡◌, ◌<◌, [], ◌∷◌, ◌++◌, Some, length, get_or, reverse, set, sym, ap, ◌∙◌, rules, arith}
use Rattle.std.specs.List.{refill}
use Rattle.std.proofs.lemmas.List.{length-set}
use Rattle.arrayvec.proofs.ArrayVecLemmas.{items-with_items}
use Rattle.awd_places.specs.Covers.{Covers, laid_by}
use Rattle.awd_places.specs.Laid.{with_byte}
use Rattle.awd_places.proofs.Covers.{has_byte, pushed_over, pushed_new, no_room, room_too}
use Rattle.awd_places.proofs.laid.LaidBytes.push.Goals as goal
use Rattle.awd_places.proofs.laid.LaidBytes.push.Goals.{In-Some, After-push, After-push-in-None-3}

pub returns-then-is_full : goal.returns-then-is_full
returns-then-is_full c =
    let x = c.self.inside in
    rw (← c.self.view_is) (no_room x.places x.shown.items x.covered.items c.self.invariant c.args.place c.args.byte (search rules))

-- a byte over another
numbered : (c : In-Some) → c.in-Some.number < length c.self.inside.shown.items
numbered c =
    let x = c.self.inside in
    has_byte x.places x.shown.items (reverse x.covered.items) c.self.invariant c.args.place c.in-Some.number (sym c.find.ensures ∙ c.in-Some.is)

pub bounds-deref-number : goal.bounds-deref-number
bounds-deref-number c = rw c.deref.ensures.0 (numbered (goal.at.bounds-deref-number c).In-Some)

pub bounds-deref_mut-number : goal.bounds-deref_mut-number
bounds-deref_mut-number c = rw c.deref_mut.ensures.value (numbered (goal.at.bounds-deref_mut-number c).In-Some)

over : (c : After-push) → let x = c.self.inside in let more = reverse c.push.new.self.items in
    let shown = refill (length x.shown.items) x.shown.items (set c.deref_mut.result.now c.in-Some.number c.args.byte) in
    Covers x.places shown more × (laid_by x.places shown more ≡ with_byte c.args.self.now c.args.place c.args.byte)
over c =
    let x = c.self.inside in
    let bs = x.shown.items in
    let n = c.in-Some.number in
    let is = sym c.find.ensures ∙ c.in-Some.is in
    let written = ap (λ xs. set xs n c.args.byte) c.deref_mut.ensures.value in
    let wrote = items-with_items x.shown (set c.deref_mut.result.now n c.args.byte) (ap length written ∙ length-set bs n c.args.byte) in
    let added = c.push.ensures.items ∙ ap (λ xs. x.covered.items ++ Some record { number = n; byte = get_or xs n 0 } ∷ []) c.deref.ensures.0 in
    let (covers, laid) = pushed_over x.places bs x.covered.items c.self.invariant (search rules) c.args.place c.args.byte n is _ _ (wrote ∙ written) added in
    (covers, laid ∙ ap (λ ls. with_byte ls c.args.place c.args.byte) c.self.view_is)

pub invariant_of-self : goal.invariant_of-self
invariant_of-self c = (over c).0

pub returns-in-Some : goal.returns-in-Some
returns-in-Some c = (over c).1

-- a byte at a place of its own
pub push-requires-in-None : goal.push-requires-in-None
push-requires-in-None c =
    let x = c.self.inside in
    (room_too x.places x.shown.items x.covered.items c.self.invariant (search rules)).0

pub push-requires-in-None-2 : goal.push-requires-in-None-2
push-requires-in-None-2 c =
    let x = c.self.inside in
    (omega arith, (room_too x.places x.shown.items x.covered.items c.self.invariant (search rules)).1)

apart : (c : After-push-in-None-3) → let more = reverse c.push-in-None-3.new.self.items in
    Covers c.push-in-None.new.self c.push-in-None-2.new.self.items more
    × (laid_by c.push-in-None.new.self c.push-in-None-2.new.self.items more ≡ with_byte c.args.self.now c.args.place c.args.byte)
apart c =
    let x = c.self.inside in
    let (covers, laid) = pushed_new x.places x.shown.items x.covered.items c.self.invariant (search rules) c.args.place c.args.byte _ _ _
    c.push-in-None.ensures c.push-in-None-2.ensures.items c.push-in-None-3.ensures.items in
    (covers, laid ∙ ap (λ ls. with_byte ls c.args.place c.args.byte) c.self.view_is)

pub invariant_of-self-in-None : goal.invariant_of-self-in-None
invariant_of-self-in-None c = (apart c).0

pub returns-in-None : goal.returns-in-None
returns-in-None c = (apart c).1
