use Rattle.std.proofs.Common.{◌≡◌, ◌++◌, take, drop}
use Rattle.awd_session.specs.Laws.{Stays}
use Rattle.awd_session.specs.View.{view}
use Rattle.awd_history.specs.Histories.{reached, answers, asked, got}
use Rattle.awd_history.proofs.histories.go_on.Given as goal

-- what is left of the history leads on to where all of it leads, and what was taken stays
abbrev pub invariant-loop-step : goal.invariant-loop-step
invariant-loop-step g l =
    let s = view l.initial.session in
    let now = view l.session in
    record {
      calls : asked l.history ≡ asked l.initial.history;
      state : reached s (asked l.initial.history) ≡ reached now (asked (drop l.step-index l.history));
      answers : answers s (asked l.initial.history) ≡ got (take l.step-index l.history) ++ answers now (asked (drop l.step-index l.history));
      stays : Stays s now;
      source : l.session.source ≡ l.initial.session.source;
    }
