use Rattle.std.proofs.Common.{◌≡◌, take}
use Rattle.awd_session.specs.View.{view}
use Rattle.awd_codes.specs.Runs.{led}
use Rattle.awd_codes.proofs.replays.make_all.Given as goal

-- the first calls were made
abbrev pub invariant-loop-call : goal.invariant-loop-call
invariant-loop-call g l = record {
  state : view l.session ≡ led (view l.initial.session) (take l.call-index l.calls);
  source : l.session.source ≡ l.initial.session.source;
}
