-- What it means that a block is taken, or refused, in the format's words.
use Rattle.std.proofs.Common.{◌≡◌, ℕ, ◌+◌, ◌≤◌, ◌<◌, true, not, eqb, leb, cond, List, [], ◌∷◌, length, Some, None, Ok, Err, Option, Result, IfErr, is_some, sym, refl, subst, ap, ◌∙◌, inl, inr, append-nil, length-append, arith}
use Rattle.std.specs.Option.{option_map}
use Rattle.std.specs.Result.{result_map_both}
use Rattle.std.proofs.lemmas.Bool.{cond_both, eqb-true, eqb-false, leb-true, leb-false, lt-ltb, not-false}
use Rattle.awd_fault.specs.Faults.{Report, of_call}
use Rattle.awd_header.specs.Header.{flags_of}
use Rattle.awd_block_fault.specs.declared.BlockFault.{BlockFault}
use Rattle.awd_block_fault.specs.Faults.{in_block, on}
use Rattle.awd_format.specs.Sets.{Reads}
use Rattle.awd_roster.specs.declared.record.Record.{Record}
use Rattle.awd_roster.specs.Table.{added}
use Rattle.awd_blocks.specs.declared.blocks.Block.{Block}
use Rattle.awd_blocks.specs.Blocks.{LawfulBlock, BlockFaultOf, block_at}
use Rattle.awd_blocks.specs.Records.{record_at}
use Rattle.awd_blocks.specs.Lists.{walk, and_at, read_blocks}
use Rattle.awd_blocks.proofs.Rows.{read_further, walk_further, next_right}
use Rattle.awd_session.specs.State.{State, bytes_of, records_of, end_of, following, next_answer, after_next, is_block}
use Rattle.awd_session.specs.Laws.{NextRight, Kept}
use Rattle.awd_edits.specs.Overlay.{overlay}
use Rattle.awd_edits.proofs.Lays.{length_overlay}
use Rattle.awd_changes.specs.Standing.{may_stand}
use Rattle.awd_source.specs.declared.source.Source.{Ghosts}
use Rattle.awd_session.specs.declared.session.Session.{Session}
use Rattle.awd_session.specs.View.{view}
use Rattle.awd_session.proofs.Taken.{open-some, opened_long, walked, stand_next}

module _ (s : State) where
  -- how the block is read that begins where the taken ones end
  abbrev reading : Result ℕ BlockFault
  reading = block_at (flags_of (bytes_of s)) (records_of s) (bytes_of s) (end_of s)

  -- the block, from its reading
  abbrev block-by : Result ℕ BlockFault → Result Block BlockFault
  block-by r = on (λ x. x) r (λ e. Ok (record { told = record_at (flags_of (bytes_of s)) (bytes_of s) (end_of s); behind = e }))

  -- what follows where the bytes are not used up, and where moreover fewer than 512 blocks are taken
  abbrev when-few : Result (Option Block) Report
  when-few = result_map_both Some (in_block s.taken) (block-by reading)

  abbrev when-more : Result (Option Block) Report
  when-more = cond (leb 512 s.taken) (Err (of_call 9 (end_of s) 512)) when-few

  abbrev answer-by : Result (Option Block) Report → Result (Option ℕ) Report
  answer-by x = result_map_both (option_map (λ block. s.taken)) (λ f. f) x

  reading-right : (r : Result ℕ BlockFault)
      → Reads (LawfulBlock (flags_of (bytes_of s)) (records_of s)) (bytes_of s) (end_of s) (length (bytes_of s)) r
      → IfErr r (λ x. BlockFaultOf (flags_of (bytes_of s)) (records_of s) (bytes_of s) (end_of s) x)
      → s.taken < 512 → (end_of s ≡ length (bytes_of s) → ⊥)
      → NextRight s (answer-by (result_map_both Some (in_block s.taken) (block-by r)))
  reading-right (Ok e) (m, place, p, stands) first few more = (refl, few, (m, p, stands))
  reading-right (Err x) none first few more = (more, inr (few, (λ next. none next.0 next.1 next.2), (x, first, refl)))

  module _ (held : read_blocks (bytes_of s) s.taken ≡ Ok (walk (bytes_of s) s.taken)) where
    right : s.opened ≡ true → 12 ≤ length (bytes_of s) → NextRight s (next_answer s)
    right opened long =
        let found = next_right (bytes_of s) s.taken (walk (bytes_of s) s.taken) long held in
        let n = length (bytes_of s) in
        rw (opened)
        (cond_both (eqb (end_of s) n) (Ok None) when-more (λ x. NextRight s (answer-by x))
        (λ end. eqb-true (end_of s) n end)
        (λ more.
        cond_both (leb 512 s.taken) (Err (of_call 9 (end_of s) 512)) when-few (λ x. NextRight s (answer-by x))
        (λ full. (eqb-false (end_of s) n more, inl (leb-true 512 s.taken full, refl)))
        (λ few.
        reading-right reading found.0 found.1 (leb-false 512 s.taken few) (eqb-false (end_of s) n more))))

  kept : Kept s (after_next s)
  kept =
      cond_both (is_block (following s)) _ _ (λ t. Kept s t)
      (λ yes'. (record_at (flags_of (bytes_of s)) (bytes_of s) (end_of s) ∷ [], ap (λ w. w.records) (walk_further (bytes_of s) s.taken)))
      (λ no'. ([], sym (append-nil (records_of s))))

  -- what a block is that comes next: the session is open, fewer than 512 are taken, and it was read and tells what its bytes say
  abbrev ComesNext : Block → Type 0
  ComesNext block =
      (s.opened ≡ true) × (s.taken < 512) × (block.told ≡ record_at (flags_of (bytes_of s)) (bytes_of s) (end_of s))
      × (reading ≡ Ok block.behind)

  abbrev If : Block → Result (Option Block) Report → Type 0
  If block r = Ok (Some block) ≡ r → ComesNext block

  read-next : s.opened ≡ true → s.taken < 512 → (block : Block) (r : Result ℕ BlockFault) → reading ≡ r
      → If block (result_map_both Some (in_block s.taken) (block-by r))
  read-next opened few block (Ok e) is told =
      let same : block ≡ record { told = record_at (flags_of (bytes_of s)) (bytes_of s) (end_of s); behind = e } = cc told in
      (opened, few, ap (λ (b : Block). b.told) same, is ∙ ap (λ (b : Block). Ok b.behind) (sym same))
  read-next opened few block (Err x) is told = absurd (cc told)

  pub comes_next : (block : Block) → If block (following s)
  comes_next block =
      cond_both (not s.opened) (Err (of_call 8 0 0)) (cond (eqb (end_of s) (length (bytes_of s))) (Ok None) when-more) (If block)
      (λ shut told. absurd (cc told))
      (λ opened.
      cond_both (eqb (end_of s) (length (bytes_of s))) (Ok None) when-more (If block)
      (λ end told. absurd (cc told))
      (λ more.
      cond_both (leb 512 s.taken) (Err (of_call 9 (end_of s) 512)) when-few (If block)
      (λ full told. absurd (cc told))
      (λ few. read-next (not-false s.opened opened) (leb-false 512 s.taken few) block reading refl)))

-- of what a session keeps
module _ {A : Type 0} {source : Ghosts A} (s : Session A source) where
  abbrev S : List ℕ
  S = source.bytes s.source

  abbrev B : List ℕ
  B = overlay S s.edits

  -- what answers next is right of the bytes
  pub answers_right : (x : Result (Option ℕ) Report) → x ≡ next_answer (view s) → (view s).opened ≡ true → NextRight (view s) x
  answers_right x is opened =
      let long = opened_long S s.header opened s.told in
      subst (NextRight (view s)) (sym is) (right (view s) (s.taken ∙ ap Ok (sym (walked s))) opened (omega (arith, long, length_overlay S s.edits)))

  -- one record more is one block more
  module _ (block : Block) (came : Ok (Some block) ≡ following (view s)) (now : List Record) (is : now ≡ added s.roster block.told) where
    more : now ≡ and_at s.roster B s.end
    more =
        let (opened, few, tells, read) = comes_next (view s) block came in
        let at-end : block.told ≡ record_at (flags_of B) B s.end = tells ∙ ap (λ w. record_at (flags_of B) B w.end) (walked s) in
        rw (is, lt-ltb (length s.roster) 512 few, at-end) refl

    longer : length now ≡ length s.roster + 1
    longer = omega (arith, ap length more, length-append s.roster (record_at (flags_of B) B s.end ∷ []))

    read-at : block_at (flags_of B) s.roster B s.end ≡ Ok block.behind
    read-at =
        let (opened, few, tells, read) = comes_next (view s) block came in
        subst (λ w. block_at (flags_of B) w.records B w.end ≡ Ok block.behind) (walked s) read

    pub grown : read_blocks B (length now) ≡ Ok (record { records = now; end = block.behind })
    grown = rw (longer, more) (read_further B (length s.roster) _ block.behind s.taken read-at)

    pub stand_grown : may_stand S s.edits (length now) ≡ true
    stand_grown =
        let (opened, few, tells, read) = comes_next (view s) block came in
        rw (longer) (stand_next s (opened_long S s.header opened s.told) block.behind read-at)

    -- what the blocks before it tell stays
    pub kept_before : Kept (view s) (record { source = S; opened = is_some s.header; taken = length now; edits = s.edits })
    kept_before =
        let is-next : record { source = S; opened = is_some s.header; taken = length now; edits = s.edits } ≡ after_next (view s) =
        rw (sym came, longer) refl in
        subst (Kept (view s)) (sym is-next) (kept (view s))

  -- only an open session takes a block
  pub still-open : (block : Block) → Ok (Some block) ≡ following (view s) → {C : Type 0} → s.header ≡ None → C
  still-open block came none = absurd (open-some s.header (comes_next (view s) block came).0 none)
