-- Lists of calls, one call on.
use Rattle.std.proofs.Common.{◌≡◌, ℕ, zero, suc, ◌+◌, ◌<◌, List, [], ◌∷◌, length, get_or, set, take, sym, refl, ap, ◌∙◌, arith}
use Rattle.awd_session.specs.State.{State}
use Rattle.awd_codes.specs.declared.calls.AwdCall.{AwdCall}
use Rattle.awd_codes.specs.declared.calls.AwdAnswer.{AwdAnswer}
use Rattle.awd_codes.specs.Calls.{call_of}
use Rattle.awd_codes.specs.Runs.{told, left, led, answered}
use Rattle.awd_codes.proofs.Written.{Written, written_more}

-- there is an answer for each call
pub length-answered : (s : State) (cs : List AwdCall) → length (answered s cs) ≡ length cs
length-answered s [] = refl
length-answered s (c ∷ cs) = ap suc (length-answered (left (call_of c) s) cs)

-- that of the call at i, by where the calls before it led
pub answered_at : (s : State) (cs : List AwdCall) (i : ℕ) (c : AwdCall) (d : AwdAnswer) → i < length cs
    → get_or (answered s cs) i d ≡ told (call_of (get_or cs i c)) (led s (take i cs))
answered_at s [] i c d within = absurd (omega arith)
answered_at s (x ∷ cs) zero c d within = refl
answered_at s (x ∷ cs) (suc i) c d within = answered_at (left (call_of x) s) cs i c d (omega arith)

-- and where it leads
pub led_on : (s : State) (cs : List AwdCall) (i : ℕ) (c : AwdCall) → i < length cs
    → led s (take (suc i) cs) ≡ left (call_of (get_or cs i c)) (led s (take i cs))
led_on s [] i c within = absurd (omega arith)
led_on s (x ∷ cs) zero c within = refl
led_on s (x ∷ cs) (suc i) c within = led_on (left (call_of x) s) cs i c (omega arith)

-- one call more is made
pub led_next : (s v w : State) (cs : List AwdCall) (i : ℕ) (d : AwdCall) → i < length cs → v ≡ led s (take i cs) → w ≡ left (call_of (get_or cs i d)) v
    → w ≡ led s (take (i + 1) cs)
led_next s v w cs i d within so_far goes =
    let on : suc i ≡ i + 1 = omega arith in
    goes ∙ ap (left (call_of (get_or cs i d))) so_far ∙ sym (led_on s cs i d within) ∙ ap (λ k. led s (take k cs)) on

-- which is x
module _ (s v w : State) (cs : List AwdCall) (i : ℕ) (x : AwdCall) (within : i < length cs) (is : x ≡ get_or cs i x) (so_far : v ≡ led s (take i cs)) where
  pub led_more : w ≡ left (call_of x) v → w ≡ led s (take (i + 1) cs)
  led_more goes = led_next s v w cs i x within so_far (goes ∙ ap (λ y. left (call_of y) v) is)

  -- and its answer written
  pub answered_more : (before now : List AwdAnswer) (a : AwdAnswer) → i < length before → Written (answered s cs) before i now → a ≡ told (call_of x) v
      → Written (answered s cs) before (i + 1) (set now i a)
  answered_more before now a room written goes =
      let answer : a ≡ get_or (answered s cs) i a =
      goes
      ∙ ap (told (call_of x)) so_far
      ∙ ap (λ y. told (call_of y) (led s (take i cs))) is
      ∙ sym (answered_at s cs i x a within) in
      written_more (answered s cs) before now i written a a (omega (arith, length-answered s cs)) room answer
