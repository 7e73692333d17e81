use Rattle.std.proofs.Common.{length, Err, Some, ap, refl, arith, ◌∙◌}
use Rattle.std.specs.Result.{result_map_both}
use Rattle.std.proofs.lemmas.Bool.{eq-eqb, ne_eqb, le-leb, lt-leb}
use Rattle.awd_block_fault.specs.Faults.{in_block}
use Rattle.awd_edits.specs.Overlay.{overlay}
use Rattle.awd_edits.proofs.Lays.{length_overlay}
use Rattle.awd_session.proofs.Taken.{walked, read_below}
use Rattle.awd_session.proofs.session.Session.following.Goals as goal

pub returns-then-self-length : goal.returns-then-self-length
returns-then-self-length g c =
    let s = c.args.self.now in
    let B = overlay (g.S.Source.bytes s.source) s.edits in
    rw (walked s, c.in-Some.is, eq-eqb s.end (length B) (omega (arith, length_overlay (g.S.Source.bytes s.source) s.edits))) refl

pub returns-then-number : goal.returns-then-number
returns-then-number g c =
    let s = c.args.self.now in
    let B = overlay (g.S.Source.bytes s.source) s.edits in
    let more = ne_eqb s.end (length B) (omega (arith, length_overlay (g.S.Source.bytes s.source) s.edits)) in
    rw (walked s, c.in-Some.is, more, le-leb 512 (length s.roster) (omega arith)) (ap Err c.of_call-then-number.ensures)

pub returns-in-Ok : goal.returns-in-Ok
returns-in-Ok g c =
    let s = c.args.self.now in
    let B = overlay (g.S.Source.bytes s.source) s.edits in
    let more = ne_eqb s.end (length B) (omega (arith, length_overlay (g.S.Source.bytes s.source) s.edits)) in
    let read = c.in-Ok.ensures ∙ read_below s c.in-Some.header c.in-Some.is in
    rw (walked s, c.in-Some.is, more, lt-leb 512 (length s.roster) (omega arith)) (ap (result_map_both Some (in_block (length s.roster))) read)

pub returns-in-Err : goal.returns-in-Err
returns-in-Err g c =
    let s = c.args.self.now in
    let B = overlay (g.S.Source.bytes s.source) s.edits in
    let more = ne_eqb s.end (length B) (omega (arith, length_overlay (g.S.Source.bytes s.source) s.edits)) in
    let read = c.in-Err.ensures ∙ read_below s c.in-Some.header c.in-Some.is in
    rw (walked s, c.in-Some.is, more, lt-leb 512 (length s.roster) (omega arith))
    (ap Err c.in_block.ensures ∙ ap (λ k. Err (in_block k c.in-Err.fault)) c.count-number.ensures.value
    ∙ ap (result_map_both Some (in_block (length s.roster))) read)
