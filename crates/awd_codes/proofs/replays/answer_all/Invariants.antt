use Rattle.std.proofs.Common.{◌≡◌, ◌≤◌, length, take}
use Rattle.awd_session.specs.View.{view}
use Rattle.awd_codes.specs.Runs.{led, answered}
use Rattle.awd_codes.proofs.Written.{Written}
use Rattle.awd_codes.proofs.replays.answer_all.Given as goal

-- the first calls were made, and their answers are written
abbrev pub invariant-loop-place : goal.invariant-loop-place
invariant-loop-place g l =
    let s = view l.initial.session in
    record {
      within : l.place ≤ length l.calls;
      state : view l.session ≡ led s (take l.place l.calls);
      written : Written (answered s l.calls) l.initial.answers l.place l.answers;
    }
