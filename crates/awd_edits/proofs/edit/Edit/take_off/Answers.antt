use Rattle.std.proofs.Common.{◌≡◌, ◌+◌, ◌^◌, Bool, cond, ltb, length, drop, sym, ap, ◌∙◌}
use Rattle.awd_edits.specs.Overlay.{bytes_laid}
use Rattle.awd_edits.proofs.Spots.{held, holds_place, taken_one, taken_all}
use Rattle.awd_edits.proofs.edit.Edit.take_off.Goals as goal
use Rattle.awd_edits.proofs.edit.Edit.take_off.Goals.{then-is_some, else-is_some}

pub loop-further-preserved : goal.loop-further-preserved
loop-further-preserved c =
    let e = c.args.self.now in
    let k = c.loop-further.further in
    let n = length c.bytes-further-end.result.now in
    let ls = c.loop-further.bytes in
    let one = λ (b : Bool). cond b (drop 1 ls) ls in
    let test : c.is_some.result ≡ ltb (e.place + k) (2 ^ 64) =
    c.is_some.ensures ∙ holds_place c.checked_add.result (e.place + k) c.checked_add.ensures in
    let less : c.if-is_some.bytes ≡ one (ltb (e.place + k) (2 ^ 64)) =
    elim c.if-is_some.branch [
      | then-is_some w ↦ w.bytes-is ∙ w.pop.ensures ∙ ap one (sym w.if-is_some.true ∙ test)
      | else-is_some w ↦ w.bytes-is ∙ ap one (sym w.if-is_some.false ∙ test)
    ] in
    taken_one ls c.if-is_some.bytes (drop (held e.place n) c.args.bytes.now) e.place k n c.loop-further-test.true less c.loop-further.invariant

pub returns : goal.returns
returns c = λ below is.
    let e = c.args.self.now in
    let n = length c.bytes-further-end.result.now in
    taken_all c.args.bytes.now c.loop-further.bytes below e.place (bytes_laid e.laid) c.loop-further.further n
    c.loop-further-test.false (ap length c.bytes-further-end.ensures.value) is c.loop-further.invariant
