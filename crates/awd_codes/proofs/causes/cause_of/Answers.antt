use Rattle.std.proofs.Common.{◌≡◌, ◌≤◌, ℕ, zero, suc, [], ◌∷◌, refl, arith}
use Rattle.std.proofs.lemmas.List.{get_or_past}
use Rattle.awd_fault.specs.Texts.{cause_texts}
use Rattle.awd_codes.specs.Causes.{words_for}
use Rattle.awd_codes.proofs.causes.cause_of.Goals as goal

-- there are no words for a number below those of the causes or above them
no_words : (n : ℕ) → (1 ≤ n → 29 ≤ n) → words_for n ≡ []
no_words zero none = refl
no_words (suc n) none = get_or_past ([] ∷ cause_texts) (suc n) [] (none (omega arith))

pub returns-in_default : goal.returns-in_default
returns-in_default c = no_words c.args.number (omega arith)
