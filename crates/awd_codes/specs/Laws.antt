-- What the numbers tell. Assumes nothing.
use Rattle.std.specs.Prelude.{◌≡◌, ◌≢◌, List, map, Some}
use Rattle.awd_fault.specs.declared.Fault.{Fault}
use Rattle.awd_fault.specs.Faults.{report}
use Rattle.awd_roster.specs.declared.record.Record.{Record}
use Rattle.awd_calls.specs.declared.calls.Call.{Call}
use Rattle.awd_session.specs.State.{State}
use Rattle.awd_history.specs.Histories.{reached, answers}
use Rattle.awd_codes.specs.declared.calls.AwdCall.{AwdCall}
use Rattle.awd_codes.specs.Records.{fault_code, block_code}
use Rattle.awd_codes.specs.Calls.{call_of, answer_code}
use Rattle.awd_codes.specs.Runs.{led, answered}

-- numbers stand for a list of calls
abbrev pub Stand : List AwdCall → List Call → Type 0
Stand cs calls = map call_of cs ≡ map Some calls

pub record CodeLaws : Type 0 where
  -- numbers that stand for calls lead where these lead
  pub led : (s : State) (cs : List AwdCall) (calls : List Call) → Stand cs calls → led s cs ≡ reached s calls
  -- and get their answers
  pub answered : (s : State) (cs : List AwdCall) (calls : List Call) → Stand cs calls
      → answered s cs ≡ map (λ a. answer_code a.1) (answers s calls)
  -- a refusal is told from none by its cause
  pub refused : (f : Fault) → (fault_code (report f)).cause ≢ 0
  -- two faults with the same numbers are the same
  pub faults : (f g : Fault) → fault_code (report f) ≡ fault_code (report g) → f ≡ g
  -- two blocks with the same numbers tell the same
  pub blocks : (r q : Record) → block_code r ≡ block_code q → r ≡ q
