-- Lists of calls, one after another. Assumes nothing.
use Rattle.std.specs.Prelude.{◌≡◌, ℕ, List, [], ◌∷◌, map}
use Rattle.awd_session.specs.State.{State, fresh}
use Rattle.awd_calls.specs.declared.calls.Call.{Call}
use Rattle.awd_calls.specs.Answers.{Value, said}
use Rattle.awd_history.specs.declared.calls.Step.{Step}
use Rattle.awd_history.specs.Calls.{answer_to, after}

-- what a list of calls leaves of a session
abbrev pub reached : State → List Call → State
reached s [] = s
reached s (c ∷ cs) = reached (after c s) cs

-- and what each of them answers
abbrev pub answers : State → List Call → List (ℕ × Value)
answers s [] = []
answers s (c ∷ cs) = answer_to c s ∷ answers (after c s) cs

-- the calls of a history, and what their answers say
abbrev pub asked : List Step → List Call
asked history = map (λ step. step.call) history

abbrev pub got : List Step → List (ℕ × Value)
got history = map (λ step. said step.answer) history

-- a session over bytes had a history from its making on, and then a further one: where it is then, and what both asked and got
pub record RanOn (B : List ℕ) (s : State) (first first' further further' : List Step) : Type 0 where
  pub state : s ≡ reached (reached (fresh B) (asked first)) (asked further)
  pub calls : (asked first' ≡ asked first) × (asked further' ≡ asked further)
  pub before : got first' ≡ answers (fresh B) (asked first)
  pub after : got further' ≡ answers (reached (fresh B) (asked first)) (asked further)

-- two sessions are alike: in the bytes of their sources, in being open or not, in the number of blocks taken and in the edits that stand
pub record Alike (s t : State) : Type 0 where
  pub source : s.source ≡ t.source
  pub opened : s.opened ≡ t.opened
  pub taken : s.taken ≡ t.taken
  pub edits : s.edits ≡ t.edits
