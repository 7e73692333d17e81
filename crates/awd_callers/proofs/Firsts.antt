-- What a caller that edits the first block is answered, by the answers of the calls that it makes.
use Rattle.std.proofs.Common.{◌≡◌, ℕ, Ok, Err, Option, ap, ◌∙◌}
use Rattle.std.specs.Result.{result_and}
use Rattle.awd_fault.specs.Faults.{Report}
use Rattle.awd_header.specs.declared.Header.{Header}
use Rattle.awd_session.specs.State.{State, open_answer, after_open, next_answer, after_next}
use Rattle.awd_session.specs.Edits.{reparenting, edit_answer}
use Rattle.awd_callers.specs.Edits.{first_reparented}

-- a session s, which is t when it has been opened
module _ (s t : State) (opened : t ≡ after_open s) (h : Header) (header : Ok h ≡ open_answer s) (address : ℕ) where
  pub next_refused : (f : Report) → Err f ≡ next_answer t → Err f ≡ first_reparented s address
  next_refused f is =
      let edited = edit_answer 0 (reparenting (after_next (after_open s)) 0 address) in
      ap (λ r. result_and r edited) (is ∙ ap next_answer opened) ∙ ap (λ r. result_and r (result_and (next_answer (after_open s)) edited)) header

  pub block_taken : (u : State) (o : Option ℕ) → Ok o ≡ next_answer t → u ≡ after_next t → edit_answer 0 (reparenting u 0 address) ≡ first_reparented s address
  block_taken u o is taken =
      let edited = edit_answer 0 (reparenting (after_next (after_open s)) 0 address) in
      ap (λ v. edit_answer 0 (reparenting v 0 address)) (taken ∙ ap after_next opened)
      ∙ ap (λ r. result_and r edited) (is ∙ ap next_answer opened)
      ∙ ap (λ r. result_and r (result_and (next_answer (after_open s)) edited)) header
