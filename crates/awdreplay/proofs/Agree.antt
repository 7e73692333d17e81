-- Sessions that are alike print the same of a call.
use Rattle.std.proofs.Common.{◌≡◌, ℕ, true, cond, List, ◌++◌, Some, None, refl, sym, ap, ◌∙◌}
use Rattle.std.specs.Prelude.{◌==◌, ◌&&◌, codes, decimal, bytes_eq, string_bytes, to_bits}
use Rattle.std.specs.Float.{binary32, binary64}
use Rattle.std.proofs.lemmas.Slice.Eq.{bytes_eq-Decides}
use Rattle.awd_calls.specs.declared.calls.Call.{Call}
use Rattle.awd_calls.specs.declared.calls.Answer as answers
use Rattle.awd_calls.specs.declared.calls.Answer.TheVariants as answer
use Rattle.awd_contents.specs.declared.contents.Cell.TheVariants.{Single, Double}
use Rattle.awd_calls.specs.Answers.{Value, said, nothing, fault, number, what_block_tells, what_header_says, float}
use Rattle.awd_calls.specs.Texts.{or_dash, item, record_text, hexadecimal, answer_text}
use Rattle.awd_session.specs.State.{State}
use Rattle.awd_history.specs.Calls.{answer_to}
use Rattle.awdreplay.specs.declared.replicas.Answered.{Answered}
use Rattle.awdreplay.specs.Lines.{Tells, CameTo}

-- the line of what an answer says, by the number of the answer and its value
line_of : ℕ → Value → List ℕ
line_of k nothing = codes "ok"
line_of k (fault r) = codes "fault " ++ (item r.cause ++ (item r.place ++ (item r.block ++ (item r.layer ++ or_dash r.index))))
line_of k (number None) = codes "none"
line_of k (number (Some n)) = cond (k == 3) (decimal n) (codes "some " ++ decimal n)
line_of k (what_block_tells None) = codes "none"
line_of k (what_block_tells (Some r)) = record_text r
line_of k (what_header_says h) = codes "ok"
line_of k (float None) = codes "none"
line_of k (float (Some (c, x))) = cond (c == 1) (codes "some s " ++ hexadecimal 8 (to_bits binary32 x)) (codes "some d " ++ hexadecimal 16 (to_bits binary64 x))

by_value : (a : answers.Answer) → answer_text a ≡ line_of (said a).0 (said a).1
unfolding line_of
by_value (answer.Refused f) = refl
by_value answer.Done = refl
by_value (answer.Opened h) = refl
by_value (answer.Taken None) = refl
by_value (answer.Taken (Some n)) = refl
by_value (answer.Count n) = refl
by_value (answer.Record None) = refl
by_value (answer.Record (Some r)) = refl
by_value (answer.Number None) = refl
by_value (answer.Number (Some n)) = refl
by_value (answer.Address None) = refl
by_value (answer.Address (Some n)) = refl
by_value (answer.Content None) = refl
by_value (answer.Content (Some (Single x))) = refl
by_value (answer.Content (Some (Double x))) = refl
by_value (answer.Byte None) = refl
by_value (answer.Byte (Some n)) = refl

-- lines that tell the same are the same
one_line : (what : ℕ × Value) (one other : List ℕ) → Tells what one → Tells what other → bytes_eq one other ≡ true
one_line what one other (a, said_a, line_a) (b, said_b, line_b) =
    let told_a : one ≡ line_of what.0 what.1 = line_a ∙ by_value a ∙ ap (λ (w : ℕ × Value). line_of w.0 w.1) said_a in
    let told_b : other ≡ line_of what.0 what.1 = line_b ∙ by_value b ∙ ap (λ (w : ℕ × Value). line_of w.0 w.1) said_b in
    (bytes_eq-Decides one other).1 (told_a ∙ sym told_b)

pub agreed : (call : Call) (plain paged nested : State) (a : Answered) → CameTo call plain paged nested a → paged ≡ plain → nested ≡ plain → a.same ≡ true
agreed call plain paged nested a came second third =
    came.same
    ∙ ap (λ b. b && bytes_eq came.third (string_bytes a.text)) (one_line (answer_to call plain) came.second (string_bytes a.text)
    (rw second at came.second_told) came.first_told)
    ∙ one_line (answer_to call plain) came.third (string_bytes a.text) (rw third at came.third_told) came.first_told
