-- What each call of a session answers and leaves. Assumes nothing.
use Rattle.std.specs.Prelude.{ℕ, length, Some, Ok, Err, Result}
use Rattle.awd_fault.specs.Faults.{Report}
use Rattle.awd_source.specs.Bytes.{byte_at}
use Rattle.awd_calls.specs.declared.calls.Call as calls
use Rattle.awd_calls.specs.declared.calls.Call.TheVariants as call
use Rattle.awd_calls.specs.Answers.{Value, nothing, fault, number, what_block_tells, what_header_says, float}
use Rattle.awd_session.specs.State.{State, bytes_of, open_answer, after_open, next_answer, after_next, record_answer, number_answer, path_answer, material_answer, cell_answer}
use Rattle.awd_session.specs.Edits.{reparenting, dressing, nudging, edit_answer, after_edit, undo_answer, after_undo}

-- an answer that may be a refusal
abbrev pub or_refused : {A : Type 0} → (A → ℕ × Value) → Result A Report → ℕ × Value
or_refused say (Ok x) = say x
or_refused say (Err f) = (0, fault f)

-- one that says nothing but that it is no refusal
abbrev pub done : Result (Unit {0}) Report → ℕ × Value
done r = or_refused (λ x. (1, nothing)) r

abbrev pub answer_to : calls.Call → State → ℕ × Value
answer_to call.Open s = or_refused (λ h. (9, what_header_says h)) (open_answer s)
answer_to call.Next s = or_refused (λ n. (2, number n)) (next_answer s)
answer_to (call.Reparent n address) s = done (edit_answer n (reparenting s n address))
answer_to (call.Dress n position address) s = done (edit_answer n (dressing s n position address))
answer_to (call.Nudge n cell content) s = done (edit_answer n (nudging s n cell content))
answer_to call.Undo s = done (undo_answer s)
answer_to call.Count s = (3, number (Some s.taken))
answer_to call.Edits s = (3, number (Some (length s.edits)))
answer_to (call.Record n) s = (4, what_block_tells (record_answer s n))
answer_to (call.NumberOf id) s = (5, number (number_answer s id))
answer_to (call.Material n position) s = (6, number (material_answer s n position))
answer_to (call.Cell n cell) s = (7, float (cell_answer s n cell))
answer_to (call.Path n) s = (5, number (path_answer s n))
answer_to call.Length s = (3, number (Some (length (bytes_of s))))
answer_to (call.Byte at) s = (8, number (byte_at (bytes_of s) at))

-- what it leaves: questions change nothing
abbrev pub after : calls.Call → State → State
after call.Open s = after_open s
after call.Next s = after_next s
after (call.Reparent n address) s = after_edit s (reparenting s n address)
after (call.Dress n position address) s = after_edit s (dressing s n position address)
after (call.Nudge n cell content) s = after_edit s (nudging s n cell content)
after call.Undo s = after_undo s
after call.Count s = s
after call.Edits s = s
after (call.Record n) s = s
after (call.NumberOf id) s = s
after (call.Material n position) s = s
after (call.Cell n cell) s = s
after (call.Path n) s = s
after call.Length s = s
after (call.Byte at) s = s
