use Rattle.std.proofs.Common.{◌≡◌, ◌++◌, Ok, string_bytes, sym, ap, ◌∙◌, rules}
use Rattle.std.proofs.lemmas.Result.{IfOk-equal}
use Rattle.awd_fault.specs.Faults.{report}
use Rattle.awd_session.specs.State.{records_of}
use Rattle.awd_session.specs.View.{view}
use Rattle.awd_listing.specs.Listing.{block_line, block_lines}
use Rattle.awd_session.proofs.Asked.{told_of_all}
use Rattle.awd_listing.proofs.Lines.{taken_next, line_written, all_taken, refused}
use Rattle.awd_listing.proofs.add_lines.Goals as goal
use Rattle.awd_listing.proofs.add_lines.Goals.{in-Some+in_ok-add_block_line-in-Ok-Some, in_default}

pub returns-in-Ok-None : goal.returns-in-Ok-None
returns-in-Ok-None g c =
    let is = sym (ap Ok c.in-Ok-None.field-0-is) ∙ c.in-Ok-None.ensures.answer in
    let last =
    all_taken (view c.args.session.now) (view c.loop.session) c.loop.counter c.loop.invariant.0 (string_bytes c.args.text.now) (string_bytes c.loop.text) c.loop.invariant.1
    (view c.next.new.self) c.count.result is c.in-Ok-None.ensures.state c.count.ensures.taken in
    IfOk-equal _ _ _ _ c.add_end_line.ensures last

pub returns-in-Err : goal.returns-in-Err
returns-in-Err g c =
    let last =
    refused (view c.args.session.now) (view c.loop.session) c.loop.counter c.loop.invariant.0 (string_bytes c.args.text.now) (string_bytes c.loop.text) c.loop.invariant.1
    (report c.in-Err.fault) c.in-Err.ensures.answer in
    IfOk-equal _ _ _ _ c.add_fault_line.ensures last

pub loop-preserved : goal.loop-preserved
loop-preserved g c =
    let s = view c.loop.session in
    let t = view c.next.new.self in
    let number = c.in-Ok-Some.number in
    let is = sym (ap Ok c.in-Ok-Some.field-0-is) ∙ c.in-Ok-Some.ensures.answer in
    let (going, (r, told, lines)) =
    taken_next (view c.args.session.now) s t c.loop.counter number c.loop.invariant.0 is c.in-Ok-Some.ensures.state c.in-Ok-Some.ensures.kept (told_of_all c.loop.session) (told_of_all c.next.new.self) in
    elim c.match-record.branch [
      | in-Some+in_ok-add_block_line-in-Ok-Some w ↦
          let same : r ≡ w.in-Some.block = cc (sym told ∙ sym c.record.ensures ∙ w.in-Some.is) in
          (going, line_written (string_bytes c.args.text.now) (string_bytes c.loop.text) (block_line number w.in-Some.block) (string_bytes c.match-record.text) (block_lines 0 (records_of s)) (block_lines 0 (records_of t)) c.loop.invariant.1 (search (rules, w.text-is, w.in_ok-add_block_line-in-Ok-Some.ensures)) (lines ∙ ap (λ x. block_lines 0 (records_of s) ++ block_line number x) same))
      | in_default w ↦ absurd (w.in_default.not-Some r (c.record.ensures ∙ told))
    ]
