-- How a session that is asked for one block after another goes on to where it takes no more.
use Rattle.std.proofs.Common.{◌≡◌, ℕ, zero, suc, ◌+◌, ◌-◌, ◌≤◌, Bool, false, cond, length, Some, None, Ok, Err, Option, Result, sym, refl, ap, ◌∙◌, arith}
use Rattle.std.specs.Result.{result_map_both}
use Rattle.std.specs.Option.{option_map}
use Rattle.awd_fault.specs.Faults.{Report}
use Rattle.awd_source.specs.declared.source.Source.{Ghosts}
use Rattle.awd_session.specs.declared.session.Session.{Session}
use Rattle.awd_session.specs.State.{State, bytes_of, records_of, following, next_answer, after_next, is_block}
use Rattle.awd_session.specs.Asked.{asked}
use Rattle.awd_session.specs.View.{view}
use Rattle.awd_session.proofs.Taken.{walk_taken}
use Rattle.awd_session.proofs.Next.{comes_next}

-- a session tells of as many blocks as it has taken
pub told_of_all : {S : Type 0} {source : Ghosts S} (x : Session S source) → length (records_of (view x)) ≡ (view x).taken
told_of_all {S} {source} x = ap (λ w. length w.records) (walk_taken (bytes_of (view x)) (length x.roster) _ x.taken)

-- the answer to next is a number only where a block follows, and none or a fault only where none does
block_follows : {B : Type 0} (n number : ℕ) (r : Result (Option B) Report) → Ok (Some number) ≡ result_map_both (option_map (λ block. n)) (λ f. f) r
    → (block : B) × (Ok (Some block) ≡ r) × (number ≡ n)
block_follows n number (Ok (Some block)) is = (block, refl, cc is)
block_follows n number (Ok None) is = absurd (cc is)
block_follows n number (Err f) is = absurd (cc is)

none_follows : {B : Type 0} (n : ℕ) (r : Result (Option B) Report) → result_map_both (option_map (λ block. n)) (λ f. f) r ≡ Ok None → r ≡ Ok None
none_follows n (Ok (Some block)) is = absurd (cc is)
none_follows n (Ok None) is = refl
none_follows n (Err f) is = absurd (cc is)

fault_follows : {B : Type 0} (n : ℕ) (f : Report) (r : Result (Option B) Report) → result_map_both (option_map (λ block. n)) (λ f. f) r ≡ Err f → r ≡ Err f
fault_follows n f (Ok (Some block)) is = absurd (cc is)
fault_follows n f (Ok None) is = absurd (cc is)
fault_follows n f (Err g) is = ap Err (cc is)

-- a session after a block, or after none
abbrev after_by : State → Bool → State
after_by s came = cond came (record { source = s.source; opened = s.opened; taken = s.taken + 1; edits = s.edits }) s

-- a session that goes no further stays, however often it is asked
pub asked_stays : (n : ℕ) (s : State) → after_next s ≡ s → asked n s ≡ s
unfolding asked
asked_stays zero s same = refl
asked_stays (suc n) s same = ap (asked n) same ∙ asked_stays n s same

-- a session that took a block at each of n answers since it had taken none
pub record Going (start : State) (n : ℕ) (s : State) : Type 0 where
  pub taken : s.taken ≡ n
  pub few : n ≤ 512
  pub ahead : asked (512 - n) s ≡ asked 512 start

-- it takes one more
pub one_on : (start s t : State) (n number : ℕ) → Going start n s → Ok (Some number) ≡ next_answer s → t ≡ after_next s
    → Going start (n + 1) t × (number ≡ s.taken) × (t.taken ≡ s.taken + 1)
unfolding asked
one_on start s t n number going is after =
    let (block, follows, same) = block_follows s.taken number (following s) is in
    let few = (comes_next s block follows).1 in
    let to = after ∙ ap (after_by s) (ap is_block (sym follows)) in
    let count : t.taken ≡ s.taken + 1 = ap (λ (u : State). u.taken) to in
    let turn : 512 - n ≡ suc (512 - (n + 1)) = omega (arith, few, going.taken) in (
      record {
        taken = count ∙ ap (λ k. k + 1) going.taken;
        few = omega (arith, few, going.taken);
        ahead = ap (asked (512 - (n + 1))) after ∙ ap (λ k. asked k s) (sym turn) ∙ going.ahead;
      },
      same,
      count,
    )

-- where it goes no further, it is where it is after all answers
last : (start s : State) (n : ℕ) → Going start n s → is_block (following s) ≡ false → s ≡ asked 512 start
last start s n going none = sym (asked_stays (512 - n) s (ap (after_by s) none)) ∙ going.ahead

no_block : (s : State) → Ok None ≡ next_answer s → is_block (following s) ≡ false
no_block s is = ap is_block (none_follows s.taken (following s) (sym is))

pub none_stays : (s : State) → Ok None ≡ next_answer s → after_next s ≡ s
none_stays s is = ap (after_by s) (no_block s is)

pub none_last : (start s : State) (n : ℕ) → Going start n s → Ok None ≡ next_answer s → s ≡ asked 512 start
none_last start s n going is = last start s n going (no_block s is)

pub fault_last : (start s : State) (n : ℕ) → Going start n s → (f : Report) → Err f ≡ next_answer s → s ≡ asked 512 start
fault_last start s n going f is = last start s n going (ap is_block (fault_follows s.taken f (following s) (sym is)))
