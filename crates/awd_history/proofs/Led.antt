-- Where lists of calls lead.
use Rattle.std.proofs.Common.{◌≡◌, true, List, [], ◌∷◌, ◌++◌, Ok, Err, refl, ap, ◌∙◌}
use Rattle.std.specs.Prelude.{is_ok}
use Rattle.std.proofs.lemmas.Bool.{cond_both}
use Rattle.awd_calls.specs.declared.calls.Call.{Call}
use Rattle.awd_calls.specs.declared.calls.Call.TheVariants as call
use Rattle.awd_session.specs.State.{State, open_answer, following, is_block}
use Rattle.awd_session.specs.Edits.{Asked, after_edit, undoing, reparenting, dressing, nudging}
use Rattle.awd_edits.specs.declared.edit.Edit.{Edit}
use Rattle.awd_history.specs.Calls.{answer_to, after}
use Rattle.awd_history.specs.Histories.{reached, answers}

-- a state over the same bytes, open where the other is
abbrev On : State → State → Type 0
On s t = (t.source ≡ s.source) × (s.opened ≡ true → t.opened ≡ true)

same : (s : State) → On s s
same s = (refl, λ opened. opened)

edited : (s : State) (a : Asked Edit) → On s (after_edit s a)
edited s (Ok e) = (refl, λ opened. opened)
edited s (Err cause) = (refl, λ opened. opened)

-- after one call
one_call : (c : Call) (s : State) → On s (after c s)
one_call call.Open s = cond_both (is_ok (open_answer s)) _ s (λ t. On s t) (λ accepted. (refl, λ opened. refl)) (λ refused. same s)
one_call call.Next s = cond_both (is_block (following s)) _ s (λ t. On s t) (λ taken. (refl, λ opened. opened)) (λ refused. same s)
one_call (call.Reparent n address) s = edited s (reparenting s n address)
one_call (call.Dress n position address) s = edited s (dressing s n position address)
one_call (call.Nudge n cell content) s = edited s (nudging s n cell content)
one_call call.Undo s = cond_both (is_ok (undoing s)) _ s (λ t. On s t) (λ undone. (refl, λ opened. opened)) (λ refused. same s)
one_call call.Count s = same s
one_call call.Edits s = same s
one_call (call.Record n) s = same s
one_call (call.NumberOf id) s = same s
one_call (call.Material n position) s = same s
one_call (call.Cell n cell) s = same s
one_call (call.Path n) s = same s
one_call call.Length s = same s
one_call (call.Byte at) s = same s

-- after all of them
all_calls : (s : State) (cs : List Call) → On s (reached s cs)
all_calls s [] = same s
all_calls s (c ∷ cs) =
    let (bytes, stays_open) : On s (after c s) = one_call c s in
    let (all_bytes, all_open) : On (after c s) (reached (after c s) cs) = all_calls (after c s) cs in
    (all_bytes ∙ bytes, λ opened. all_open (stays_open opened))

-- the bytes of the source are as they were
pub source_same : (s : State) (cs : List Call) → (reached s cs).source ≡ s.source
source_same s cs = (all_calls s cs).0

-- what is open stays open
pub stays_open : (s : State) (cs : List Call) → s.opened ≡ true → (reached s cs).opened ≡ true
stays_open s cs = (all_calls s cs).1

-- more calls lead on from where the first ones led
pub led_on : (s : State) (cs ds : List Call) → reached s (cs ++ ds) ≡ reached (reached s cs) ds
led_on s [] ds = refl
led_on s (c ∷ cs) ds = led_on (after c s) cs ds

-- and are answered from there
pub answered_on : (s : State) (cs ds : List Call) → answers s (cs ++ ds) ≡ answers s cs ++ answers (reached s cs) ds
answered_on s [] ds = refl
answered_on s (c ∷ cs) ds = ap (λ xs. answer_to c s ∷ xs) (answered_on (after c s) cs ds)
