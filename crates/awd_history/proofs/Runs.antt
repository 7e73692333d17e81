-- Calls one after another, one step on.
use Rattle.std.proofs.Common.{◌≡◌, ℕ, ◌+◌, ◌<◌, List, [], ◌∷◌, ◌++◌, length, get_or, set, take, drop, sym, ap, ◌∙◌, arith}
use Rattle.std.proofs.lemmas.List.{drop_more, drop-set-lt, take_more_set, map-set, map-append, append_assoc, set-get_or, get_or-map}
use Rattle.awd_calls.specs.declared.calls.Call.{Call}
use Rattle.awd_calls.specs.Answers.{said}
use Rattle.awd_session.specs.State.{State}
use Rattle.awd_history.specs.declared.calls.Step.{Step}
use Rattle.awd_history.specs.Calls.{answer_to, after}
use Rattle.awd_history.specs.Histories.{reached, answers, asked, got}

-- a history of which the step at i got an answer: x has the call that stood there
module _ (h : List Step) (i : ℕ) (x : Step) (within : i < length h) (same : x.call ≡ (get_or h i x).call) where
  pub asked_still : asked (set h i x) ≡ asked h
  asked_still =
      map-set (λ (y : Step). y.call) h i x ∙ ap (set (asked h) i) (same ∙ sym (get_or-map (λ (y : Step). y.call) h i x x.call within)) ∙ set-get_or (asked h) i x.call

  -- what is left of it begins with that call
  asked_left : asked (drop i h) ≡ x.call ∷ asked (drop (i + 1) (set h i x))
  asked_left =
      ap asked (drop_more h i x within) ∙ ap (λ c. c ∷ asked (drop (i + 1) h)) (sym same) ∙ ap (λ r. x.call ∷ asked r) (sym (drop-set-lt (i + 1) h i x (omega arith)))

  got_so_far : got (take (i + 1) (set h i x)) ≡ got (take i h) ++ said x.answer ∷ []
  got_so_far = ap got (take_more_set h i x within) ∙ map-append (λ (y : Step). said y.answer) (take i h) (x ∷ [])

  module _ (all : List Call) (s v w : State) (is : w ≡ after x.call v) where
    pub reached_on : reached s all ≡ reached v (asked (drop i h)) → reached s all ≡ reached w (asked (drop (i + 1) (set h i x)))
    reached_on so_far = so_far ∙ ap (reached v) asked_left ∙ ap (λ u. reached u (asked (drop (i + 1) (set h i x)))) (sym is)

    pub answers_on : said x.answer ≡ answer_to x.call v → answers s all ≡ got (take i h) ++ answers v (asked (drop i h))
        → answers s all ≡ got (take (i + 1) (set h i x)) ++ answers w (asked (drop (i + 1) (set h i x)))
    answers_on told so_far =
        let left = asked (drop (i + 1) (set h i x)) in
        so_far
        ∙ ap (λ cs. got (take i h) ++ answers v cs) asked_left
        ∙ ap (λ a. got (take i h) ++ a ∷ answers (after x.call v) left) (sym told)
        ∙ ap (λ u. got (take i h) ++ said x.answer ∷ answers u left) (sym is)
        ∙ sym (append_assoc (got (take i h)) (said x.answer ∷ []) (answers w left))
        ∙ ap (λ xs. xs ++ answers w left) (sym got_so_far)
