-- Where lists of calls lead. Assumes nothing.
use Rattle.std.specs.Prelude.{◌≡◌, true, List, ◌++◌}
use Rattle.awd_calls.specs.declared.calls.Call.{Call}
use Rattle.awd_session.specs.State.{State}
use Rattle.awd_history.specs.Histories.{reached, answers}

pub record HistoryLaws : Type 0 where
  -- the bytes of the source are as they were
  pub source : (s : State) (cs : List Call) → (reached s cs).source ≡ s.source
  -- what is open stays open
  pub opened : (s : State) (cs : List Call) → s.opened ≡ true → (reached s cs).opened ≡ true
  -- a history that goes on goes on from where it led
  pub on : (s : State) (cs ds : List Call) → reached s (cs ++ ds) ≡ reached (reached s cs) ds
  -- and its further answers are those from there
  pub answers_on : (s : State) (cs ds : List Call) → answers s (cs ++ ds) ≡ answers s cs ++ answers (reached s cs) ds
