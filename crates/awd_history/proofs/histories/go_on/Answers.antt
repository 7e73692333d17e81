use Rattle.std.proofs.Common.{◌≡◌, ◌<◌, length, get_or, refl, ap, ◌∙◌, arith}
use Rattle.std.proofs.lemmas.List.{get_or_default}
use Rattle.awd_history.specs.declared.calls.Step.{Step}
use Rattle.awd_session.specs.View.{view}
use Rattle.awd_session.proofs.Stays.{stays_same, stays_on}
use Rattle.awd_history.specs.Histories.{asked}
use Rattle.awd_history.proofs.Runs.{asked_still, reached_on, answers_on}
use Rattle.awd_history.proofs.histories.go_on.Goals as goal

pub loop-step-init : goal.loop-step-init
loop-step-init g c = record { calls = refl; state = refl; answers = refl; stays = stays_same (view c.args.session.now); source = refl }

pub loop-step-preserved : goal.loop-step-preserved
loop-step-preserved g c =
    let l = c.loop-step in
    let within : l.step-index < length l.history = omega arith in
    let x : Step = record { call = (get_or l.history l.step-index _).call; answer = c.make-step.result } in
    let same : x.call ≡ (get_or l.history l.step-index x).call = ap (λ (s : Step). s.call) (get_or_default l.history l.step-index _ x within) in
    let all = asked c.args.history.now in
    record {
      calls = asked_still l.history l.step-index x within same ∙ l.invariant.calls;
      state = reached_on l.history l.step-index x within same all (view c.args.session.now) (view l.session) (view c.make-step.new.session) c.make-step.ensures.state l.invariant.state;
      answers = answers_on l.history l.step-index x within same all (view c.args.session.now) (view l.session) (view c.make-step.new.session) c.make-step.ensures.state c.make-step.ensures.answer l.invariant.answers;
      stays = stays_on (view c.args.session.now) (view l.session) (view c.make-step.new.session) l.invariant.stays c.make-step.ensures.stays;
      source = c.make-step.ensures.source ∙ l.invariant.source;
    }
