use Rattle.std.proofs.Common.{◌∙◌}
use Rattle.awd_session.specs.View.{view}
use Rattle.awd_codes.proofs.Runs.{led_next}
use Rattle.awd_codes.proofs.replays.make_all.Goals as goal

pub loop-call-preserved : goal.loop-call-preserved
loop-call-preserved g c =
    let l = c.loop-call in
    record {
      state = led_next (view c.args.session.now) (view l.session) (view c.make_coded.new.session) c.args.calls.now l.call-index _ c.loop-call-test.true l.invariant.state c.make_coded.ensures.state;
      source = c.make_coded.ensures.source ∙ l.invariant.source;
    }
