use Rattle.std.proofs.Common.{◌<◌, ◌≤◌, length, sym, ◌∙◌, arith}
use Rattle.std.proofs.lemmas.Bool.{ltb-true, ltb-false}
use Rattle.std.proofs.lemmas.List.{set-get_or}
use Rattle.awd_session.specs.View.{view}
use Rattle.awd_codes.specs.Runs.{answered}
use Rattle.awd_codes.proofs.Written.{written_all, written_full}
use Rattle.awd_codes.proofs.Runs.{length-answered, led_more, answered_more}
use Rattle.awd_codes.proofs.replays.answer_all.Goals as goal
use Rattle.awd_codes.proofs.replays.answer_all.Goals.{else-loop-place-test, then-loop-place-test+in_default}

pub loop-place-preserved : goal.loop-place-preserved
loop-place-preserved g c =
    let s = view c.args.session.now in
    let v = view c.loop-place.session in
    let w = view c.answer_coded.new.session in
    let cs = c.args.calls.now in
    let i = c.loop-place.place in
    let x = c.in-Some.call.now in
    let found = c.in-Some.ensures.lookup in
    let within : i < length cs = ltb-true i (length cs) (sym found.0) in
    record {
      within = omega arith;
      state = led_more s v w cs i x within found.1 c.loop-place.invariant.state c.answer_coded.ensures.state;
      written = answered_more s v w cs i x within found.1 c.loop-place.invariant.state c.args.answers.now c.loop-place.answers c.answer_coded.new.answer (omega arith) c.loop-place.invariant.written c.answer_coded.ensures.answer;
    }

pub returns-clause-answers : goal.returns-clause-answers
returns-clause-answers g c =
    let s = view c.args.session.now in
    let cs = c.args.calls.now in
    let many = length-answered s cs in
    let i = c.loop-place.place in
    let before = c.args.answers.now in
    elim c.loop-place-test.branch [
      | else-loop-place-test w ↦
          let full : length before ≤ i = w.loop-place-test.false in
          w.answers-is ∙ written_full (answered s cs) before c.loop-place.answers i c.loop-place.invariant.written (omega arith) (omega (arith, many))
      | then-loop-place-test+in_default w ↦
          let all : length cs ≤ i = ltb-false i (length cs) (sym w.in_default.ensures.lookup.0) in
          w.answers-is
          ∙ set-get_or c.loop-place.answers i _
          ∙ written_all (answered s cs) before c.loop-place.answers i c.loop-place.invariant.written (omega (arith, many)) (omega arith)
    ]
