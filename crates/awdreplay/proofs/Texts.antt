-- Bytes that are text, and such as are not.
use Rattle.std.proofs.Common.{◌≡◌, List, ℕ, None, Option, refl, sym, ◌∙◌}
use Rattle.std.specs.Str.{IsUtf8, is_utf8}
use Rattle.std.proofs.lemmas.Bool.{cond_both, cond-true}
use Rattle.std.proofs.lemmas.Str.{is_utf8-from_IsUtf8, IsUtf8-from_is_utf8}
use Rattle.awd_calls.specs.declared.calls.Call.{Call}
use Rattle.awd_calls.specs.Lines.{call_of}
use Rattle.awdreplay.specs.Lines.{call_in}

pub text_told : (bs : List ℕ) (found : Option Call) → IsUtf8 bs → found ≡ call_of bs → found ≡ call_in bs
text_told bs found is-text is = is ∙ sym (cond-true (is_utf8 bs) (call_of bs) None (is_utf8-from_IsUtf8 bs is-text))

pub none_told : (bs : List ℕ) → (IsUtf8 bs → ⊥) → None ≡ call_in bs
none_told bs not-text = cond_both (is_utf8 bs) (call_of bs) None (λ found. None ≡ found) (λ is. absurd (not-text (IsUtf8-from_is_utf8 bs is))) (λ is. refl)
