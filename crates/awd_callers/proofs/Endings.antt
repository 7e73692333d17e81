-- What the last answer of a session that takes block after block says of the whole document.
use Rattle.std.proofs.Common.{◌≡◌, ℕ, ◌+◌, ◌≤◌, Bool, true, false, List, [], length, MatchResult, cond, is_ok, is_some, Some, None, Ok, Err, Option, Result, sym, refl, ap, ◌∙◌, subst, inl, inr, arith}
use Rattle.std.specs.Option.{option_map}
use Rattle.std.specs.Result.{result_map_both}
use Rattle.awd_fault.specs.declared.Fault.{Fault}
use Rattle.awd_fault.specs.Faults.{Report, report}
use Rattle.awd_block_fault.specs.declared.BlockFault.{BlockFault}
use Rattle.awd_block_fault.specs.declared.BlockFault.TheVariants as layer
use Rattle.awd_block_fault.specs.Faults.{in_block}
use Rattle.awd_header.specs.declared.Header.{Header}
use Rattle.awd_header.specs.Header.{Lawful}
use Rattle.awd_format.specs.Sets.{in_row}
use Rattle.awd_blocks.specs.Lists.{HoldsOne, walk}
use Rattle.awd_blocks.proofs.Rows.{walk-end}
use Rattle.awd_session.specs.State.{State, bytes_of, open_answer, after_open, following, next_answer, is_block, after_next, end_of}
use Rattle.awd_session.specs.Laws.{NextRight}
use Rattle.awd_callers.specs.Documents.{Whole, having_taken, Behind, Refused}

-- a fault in a block tells its number
block_told : (n : ℕ) (x : BlockFault) → (in_block n x).block ≡ n
block_told n (layer.Header y) = refl
block_told n (layer.Field y) = refl
block_told n (layer.Entry y) = refl

-- a refused next tells how many blocks are taken
number_told : (s : State) (f : Report) → s.taken ≤ 512 → NextRight s (Err f) → f.block ≡ s.taken
number_told s f few (more, inl (full, is)) = ap (λ (r : Report). r.block) is ∙ omega (arith, full, few)
number_told s f few (more, inr (less, none, (x, first, is))) = ap (λ (r : Report). r.block) is ∙ block_told s.taken x

-- a session after a block, or after none
abbrev after_by : State → Bool → State
after_by s came = cond came (record { source = s.source; opened = s.opened; taken = s.taken + 1; edits = s.edits }) s

-- its own bytes stay when it is asked for the next block
next_bytes : (s : State) (came : Bool) → bytes_of (after_by s came) ≡ bytes_of s
next_bytes s true = refl
next_bytes s false = refl

pub bytes_stay : (s t : State) → t ≡ after_next s → bytes_of t ≡ bytes_of s
bytes_stay s t after = ap bytes_of after ∙ next_bytes s (is_block (following s))

-- where next answers a number, a block follows
block_came : {B : Type 0} (n : ℕ) (r : Result (Option B) Report) (o : Option ℕ) → Ok o ≡ result_map_both (option_map (λ block. n)) (λ f. f) r → is_some o ≡ true
    → (block : B) × (r ≡ Ok (Some block))
block_came n (Ok (Some block)) o is some = (block, refl)
block_came n (Ok None) None is some = absurd (cc some)
block_came n (Ok None) (Some number) is some = absurd (cc is)
block_came n (Err f) o is some = absurd (cc is)

-- and the session has one more then, open as before
pub one_more : (s t : State) (o : Option ℕ) → Ok o ≡ next_answer s → is_some o ≡ true → t ≡ after_next s → (t.opened ≡ s.opened) × (t.taken ≡ s.taken + 1)
one_more s t o is some after =
    let (block, follows) = block_came s.taken (following s) o is some in
    let to = after ∙ ap (after_by s) (ap is_block follows) in
    (ap (λ (u : State). u.opened) to, ap (λ (u : State). u.taken) to)

-- its own bytes stay when it is opened, too
open_bytes : (s : State) (came : Bool) → bytes_of (cond came (record { source = s.source; opened = true; taken = s.taken; edits = s.edits }) s) ≡ bytes_of s
open_bytes s true = refl
open_bytes s false = refl

pub opened_bytes : (s t : State) → t ≡ after_open s → bytes_of t ≡ bytes_of s
opened_bytes s t after = ap bytes_of after ∙ open_bytes s (is_ok (open_answer s))

-- what a session says of its own bytes, one over these bytes without an edit says as well
module _ (B : List ℕ) (s : State) (over : bytes_of s ≡ B) (n : ℕ) (many : n ≡ s.taken) (held : HoldsOne B n) where
  pub refused_behind : n ≤ 512 → (f : Report) → NextRight s (Err f) → Behind B f
  refused_behind few f right =
      let block : f.block ≡ s.taken = number_told s f (omega (arith, few, many)) right in
      let unedited : NextRight (having_taken (bytes_of s) s.taken) (Err f) = right in
      (subst (HoldsOne B) (many ∙ sym block) held, subst (λ b. NextRight (having_taken b f.block) (Err f)) over (subst (λ k. NextRight (having_taken (bytes_of s) k) (Err f)) (sym block) unedited))

  pub ended_whole : n ≤ 512 → end_of s ≡ length (bytes_of s) → Whole B n
  ended_whole few ended =
      let end : (walk B n).end ≡ length B = ap (λ k. (walk B k).end) many ∙ ap (λ b. (walk b s.taken).end) (sym over) ∙ ended ∙ ap length over in
      let reach : (walk B n).end ≡ 12 + length (in_row held.blocks) = subst (λ k. (walk B k).end ≡ 12 + length (in_row held.blocks)) held.many (walk-end B 12 [] held.blocks held.held) in
      (few, (held.blocks, held.many, held.held, sym reach ∙ end))

-- of a lawful header, what the blocks come to is what the document comes to
pub taken_whole : (B : List ℕ) → Lawful B → (r : Result ℕ Fault) → MatchResult r (λ n. Whole B n) (λ f. Behind B (report f)) → MatchResult r (λ n. Lawful B × Whole B n) (λ f. Refused B (report f))
taken_whole B lawful (Ok n) whole = (lawful, whole)
taken_whole B lawful (Err f) behind = inr (lawful, behind)

-- after an accepted opening a session is open
pub opens : (s : State) (h : Header) → Ok h ≡ open_answer s → (after_open s).opened ≡ true
opens s h is = rw (sym is) refl
