-- Lists of calls that are given by their numbers, one after another. Assumes nothing.
use Rattle.std.specs.Prelude.{List, [], ◌∷◌, Some, None, Option}
use Rattle.awd_calls.specs.declared.calls.Call.{Call}
use Rattle.awd_session.specs.State.{State}
use Rattle.awd_history.specs.Calls.{answer_to, after}
use Rattle.awd_codes.specs.declared.calls.AwdCall.{AwdCall}
use Rattle.awd_codes.specs.declared.calls.AwdAnswer.{AwdAnswer}
use Rattle.awd_codes.specs.Calls.{call_of, plain, answer_code}

-- what a call answers; 0 says that there is none
abbrev pub told : Option Call → State → AwdAnswer
told None s = plain 0
told (Some c) s = answer_code (answer_to c s).1

-- and what it leaves: where there is none, nothing changes
abbrev pub left : Option Call → State → State
left None s = s
left (Some c) s = after c s

-- what a list of calls leaves of a session
abbrev pub led : State → List AwdCall → State
led s [] = s
led s (c ∷ cs) = led (left (call_of c) s) cs

-- and what each of them answers
abbrev pub answered : State → List AwdCall → List AwdAnswer
answered s [] = []
answered s (c ∷ cs) = told (call_of c) s ∷ answered (left (call_of c) s) cs
