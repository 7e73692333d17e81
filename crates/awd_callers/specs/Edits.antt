-- What a caller that edits is answered. Assumes nothing.
use Rattle.std.specs.Prelude.{ℕ, Result}
use Rattle.std.specs.Result.{result_and}
use Rattle.awd_fault.specs.Faults.{Report}
use Rattle.awd_session.specs.State.{State, open_answer, after_open, next_answer, after_next}
use Rattle.awd_session.specs.Edits.{reparenting, edit_answer}

-- a session is opened, takes a block, and gives block 0 another parent, unless one of these is refused
abbrev pub first_reparented : State → ℕ → Result (Unit {0}) Report
first_reparented s address =
    let opened = after_open s in
    let ready = after_next opened in
    result_and (open_answer s) (result_and (next_answer opened) (edit_answer 0 (reparenting ready 0 address)))
