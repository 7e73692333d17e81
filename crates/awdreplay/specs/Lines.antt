-- What the program makes of a line, and what it prints of a call. Assumes nothing.
use Rattle.std.specs.Prelude.{◌≡◌, ℕ, cond, ◌&&◌, List, [], ◌∷◌, Some, None, Option, ◌==◌, bytes_eq, string_bytes}
use Rattle.std.specs.Str.{is_utf8}
use Rattle.awd_calls.specs.declared.calls.Call.{Call}
use Rattle.awd_calls.specs.declared.calls.Answer as answers
use Rattle.awd_calls.specs.Answers.{Value, said}
use Rattle.awd_calls.specs.Lines.{call_of}
use Rattle.awd_calls.specs.Texts.{answer_text}
use Rattle.awd_session.specs.State.{State}
use Rattle.awd_history.specs.Calls.{answer_to}
use Rattle.awdreplay.specs.declared.Line.{Line}
use Rattle.awdreplay.specs.declared.Line.TheVariants as line
use Rattle.awd_session.specs.View.{view}
use Rattle.awdreplay.specs.declared.replicas.Answered.{Answered}
use Rattle.awdreplay.specs.declared.replicas.Replicas.{Replicas}

-- the call that some bytes are, where they are text (UTF-8)
abbrev pub call_in : List ℕ → Option Call
call_in bs = cond (is_utf8 bs) (call_of bs) None

-- a line that is a call, or none
abbrev pub called : Option Call → Line
called None = line.NoCall
called (Some call) = line.Call call

-- empty lines and those that begin with # (35) are passed over
abbrev pub line_of : List ℕ → Line
line_of [] = line.Passed
line_of (c ∷ cs) = cond (c == 35) line.Passed (called (call_in (c ∷ cs)))

-- a line tells an answer that says so much
abbrev pub Tells : ℕ × Value → List ℕ → Type 0
Tells what line = (a : answers.Answer) × (said a ≡ what) × (line ≡ answer_text a)

-- what comes of a call on three sessions: the line of the first's answer, and whether the lines of the three are the same
pub record CameTo (call : Call) (plain paged nested : State) (a : Answered) : Type 0 where
  pub second : List ℕ
  pub third : List ℕ
  pub first_told : Tells (answer_to call plain) (string_bytes a.text)
  pub second_told : Tells (answer_to call paged) second
  pub third_told : Tells (answer_to call nested) third
  pub same : a.same ≡ (bytes_eq second (string_bytes a.text) && bytes_eq third (string_bytes a.text))

-- the three sessions are alike
abbrev pub AllAlike : Replicas → Type 0
AllAlike r = (view r.paged ≡ view r.plain) × (view r.nested ≡ view r.plain)
