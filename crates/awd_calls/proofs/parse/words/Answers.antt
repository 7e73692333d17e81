use Rattle.std.proofs.Common.{◌≡◌, ◌≤◌, ◌++◌, [], ◌∷◌, None, length, nat_lt, Bor, ℕ, List, Some, refl, sym, ap, ◌∙◌, rules, arith}
use Rattle.std.proofs.lemmas.Bool.{cond-false, le-ltb}
use Rattle.std.proofs.lemmas.List.{length-map}
use Rattle.std.proofs.lemmas.Str.Pattern.{split_parts}
use Rattle.awd_calls.specs.Lines.{words_of}
use Rattle.awd_calls.proofs.Words.{going_on, at_end, too_many}
use Rattle.awd_calls.proofs.parse.words.Goals as goal

-- the word is what stands before the first space
pub loop-word-preserved : goal.loop-word-preserved
loop-word-preserved c =
    let rest = c.loop-word.rest.now in
    let ws = c.loop-word.words.items in
    let parts = rw c.in-Some.is at (split_parts 32 rest c.split_once.result c.split_once.ensures.cases (omega arith)) in
    let pushed : c.try_push.new.self.items ≡ ws ++ c.in-Some.word ∷ [] = search rules in
    (search rules, rw pushed (going_on c.args.line.now rest ws c.loop-word.invariant.1 c.in-Some.word c.in-Some.more.now parts.0 parts.1))

-- five words, and no room for the last
pub returns-in_err-ok-2 : goal.returns-in_err-ok-2
returns-in_err-ok-2 c =
    let rest = c.loop-word.rest.now in
    let ws = c.loop-word.words.items in
    let five : length ws ≡ 5 = search rules in
    rw c.from_residual-in_err-ok-2.ensures (sym (too_many c.args.line.now rest ws c.loop-word.invariant.1 five))

-- the rest, which has no space, is the last word
pub returns : goal.returns
returns c =
    let line = c.args.line.now in
    let rest = c.loop-word.rest.now in
    let ws = c.loop-word.words.items in
    let all = ws ++ c.loop-word.rest ∷ [] in
    let none = rw c.in_default.is at (split_parts 32 rest c.split_once.result c.split_once.ensures.cases (omega arith)) in
    let pushed : c.try_push-2.new.self.items ≡ all = search rules in
    let fits : length c.try_push-2.new.self.items ≤ 5 = search rules in
    let whole = at_end line rest ws c.loop-word.invariant.1 c.loop-word.rest refl none in
    let few : length (words_of line) ≤ 5 = omega (arith, ap length whole, length-map all (λ (w : Bor (List ℕ)). w.now), ap length pushed, fits) in
    rw pushed (ap Some (sym whole) ∙ sym (cond-false (nat_lt 5 (length (words_of line))) None _ (le-ltb 5 (length (words_of line)) few)))
