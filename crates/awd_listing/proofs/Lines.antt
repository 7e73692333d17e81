-- How a session goes on to its last line, and how the limit of an input is spelled.
use Rattle.std.proofs.Common.{◌≡◌, ℕ, suc, ◌+◌, ◌≤◌, ◌++◌, ltb, List, [], ◌∷◌, length, Some, None, Ok, Err, Result, sym, refl, ap, ◌∙◌, append-nil, append_assoc, length-append, arith}
use Rattle.std.specs.Prelude.{codes, decimal, slice_get}
use Rattle.std.specs.Fmt.{digits}
use Rattle.std.proofs.lemmas.Bool.{cond-false, le-ltb}
use Rattle.awd_fault.specs.Faults.{Report}
use Rattle.awd_header.specs.declared.Header.{Header}
use Rattle.awd_roster.specs.declared.record.Record.{Record}
use Rattle.awd_session.specs.State.{State, fresh, records_of, open_answer, after_open, next_answer, after_next, record_answer}
use Rattle.awd_session.specs.Laws.{Kept}
use Rattle.awd_session.specs.Asked.{asked}
use Rattle.awd_session.proofs.Asked.{Going, one_on, none_stays, none_last, fault_last}
use Rattle.awd_listing.specs.Listing.{newline, opened_line, block_line, block_lines, end_line, fault_line, last_line, lines_of, document_text, listing_of}

-- the last one of some, by how many stand before it
last_one : {A : Type 0} (xs : List A) (x : A) → slice_get (xs ++ x ∷ []) (length xs) ≡ Some x
last_one [] x = refl
last_one (y ∷ xs) x = last_one xs x

-- one record more, by its number
one_more : (xs rs ys : List Record) (number : ℕ) → ys ≡ xs ++ rs → length xs ≡ number → length ys ≡ number + 1
    → (r : Record) × (ys ≡ xs ++ r ∷ []) × (slice_get ys number ≡ Some r)
one_more xs [] ys number are before after = absurd (omega (arith, ap length are, length-append xs [], before, after))
one_more xs (r ∷ []) ys number are before after =
    (r, are, ap (λ l. slice_get l number) are ∙ ap (slice_get (xs ++ r ∷ [])) (sym before) ∙ last_one xs r)
one_more xs (r ∷ q ∷ rs) ys number are before after = absurd (omega (arith, ap length are, length-append xs (r ∷ q ∷ rs), before, after))

-- the lines of blocks, and of one more
lines_more : (first : ℕ) (xs : List Record) (r : Record) → block_lines first (xs ++ r ∷ []) ≡ block_lines first xs ++ block_line (first + length xs) r
lines_more first [] r = append-nil (block_line first r) ∙ ap (λ n. block_line n r) (omega arith)
lines_more first (x ∷ xs) r =
    ap (λ l. block_line first x ++ l) (lines_more (first + 1) xs r ∙ ap (λ n. block_lines (first + 1) xs ++ block_line n r) (omega arith))
    ∙ sym (append_assoc (block_line first x) (block_lines (first + 1) xs) (block_line (first + suc (length xs)) r))

-- the line of a block that is taken, and how the session goes on
pub taken_next : (start s t : State) (n number : ℕ) → Going start n s → Ok (Some number) ≡ next_answer s → t ≡ after_next s → Kept s t
    → length (records_of s) ≡ s.taken → length (records_of t) ≡ t.taken
    → Going start (n + 1) t × ((r : Record) × (record_answer t number ≡ Some r) × (block_lines 0 (records_of t) ≡ block_lines 0 (records_of s) ++ block_line number r))
taken_next start s t n number going is after kept many_before many =
    let (on, same, count) = one_on start s t n number going is after in
    let (r, at_end, answer) = one_more (records_of s) kept.0 (records_of t) number kept.1 (many_before ∙ sym same) (many ∙ count ∙ ap (λ k. k + 1) (sym same)) in
    (on, (r, answer, ap (block_lines 0) at_end ∙ lines_more 0 (records_of s) r ∙ ap (λ k. block_lines 0 (records_of s) ++ block_line k r) (omega (arith, many_before, same))))

-- the line goes from those ahead to those that are written
pub line_written : (before text line written : List ℕ) (now then : List ℕ) → text ≡ before ++ now → written ≡ text ++ line → then ≡ now ++ line → written ≡ before ++ then
line_written before text line written now then so_far added more =
    added ∙ ap (λ l. l ++ line) so_far ∙ append_assoc before now line ∙ ap (λ l. before ++ l) (sym more)

module _ (start s : State) (n : ℕ) (going : Going start n s) (before text : List ℕ) (so_far : text ≡ before ++ block_lines 0 (records_of s)) where
  -- a session that goes no further has all its lines with the last
  whole : s ≡ asked 512 start → (line : List ℕ) → line ≡ last_line s.taken (next_answer s) → text ++ line ≡ before ++ lines_of (asked 512 start)
  whole last_state line last =
      ap (λ l. l ++ line) so_far ∙ append_assoc before (block_lines 0 (records_of s)) line ∙ ap (λ l. before ++ (block_lines 0 (records_of s) ++ l)) last
      ∙ ap (λ u. before ++ lines_of u) last_state

  -- by the count that it then tells
  pub all_taken : (t : State) (count : ℕ) → Ok None ≡ next_answer s → t ≡ after_next s → count ≡ t.taken → text ++ end_line count ≡ before ++ lines_of (asked 512 start)
  all_taken t count is after counted =
      let same = counted ∙ ap (λ (u : State). u.taken) (after ∙ none_stays s is) in
      whole (none_last start s n going is) (end_line count) (ap end_line same ∙ ap (last_line s.taken) is)

  pub refused : (f : Report) → Err f ≡ next_answer s → text ++ fault_line f ≡ before ++ lines_of (asked 512 start)
  refused f is = whole (fault_last start s n going f is) (fault_line f) (ap (last_line s.taken) is)

-- the limit as a line spells it
pub limit_spelled : decimal 65536 ≡ codes "65536"
unfolding digits
limit_spelled = refl

-- an input that is read is listed by what opening it answers
module _ (b : List ℕ) (fits : length b ≤ 65536) (s : State) (is : s ≡ fresh b) where
  listed : listing_of b ≡ document_text (fresh b) (open_answer (fresh b))
  listed = cond-false (ltb 65536 (length b)) (codes "input over 65536" ++ newline) (document_text (fresh b) (open_answer (fresh b))) (le-ltb 65536 (length b) fits)

  answered : (r : Result Header Report) → r ≡ open_answer s → document_text (fresh b) r ≡ listing_of b
  answered r told = ap (document_text (fresh b)) (told ∙ ap open_answer is) ∙ sym listed

  -- the document's line and those of its blocks
  pub listing_opened : (h : Header) (t : State) (n : ℕ) (before first all : List ℕ) → Ok h ≡ open_answer s → t ≡ after_open s → n ≡ length b
      → before ≡ [] → first ≡ before ++ opened_line h n → all ≡ first ++ lines_of (asked 512 t) → all ≡ listing_of b
  listing_opened h t n before first all told state many none line lines =
      lines
      ∙ ap (λ x. x ++ lines_of (asked 512 t)) (line ∙ ap (λ x. x ++ opened_line h n) none ∙ ap (opened_line h) many)
      ∙ ap (λ u. opened_line h (length b) ++ lines_of (asked 512 u)) (state ∙ ap after_open is)
      ∙ answered (Ok h) told

  -- or the line of a refusal
  pub listing_refused : (f : Report) (before all : List ℕ) → Err f ≡ open_answer s → before ≡ [] → all ≡ before ++ fault_line f → all ≡ listing_of b
  listing_refused f before all told none line = line ∙ ap (λ x. x ++ fault_line f) none ∙ answered (Err f) told
