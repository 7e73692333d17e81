-- What a listing is made of.
use Rattle.std.proofs.Common.{◌≡◌, ℕ, true, List, [], ◌++◌, length, map, Ok, Err, sym, refl, ap, ◌∙◌, arith}
use Rattle.std.proofs.lemmas.List.{take_all}
use Rattle.awd_fault.specs.Faults.{Report}
use Rattle.awd_header.specs.declared.Header.{Header}
use Rattle.awd_session.specs.State.{State, fresh, open_answer, after_open, records_of, next_answer}
use Rattle.awd_session.specs.Asked.{asked}
use Rattle.awd_session.proofs.Asked.{asked_stays}
use Rattle.awd_codes.specs.declared.records.AwdBlock.{AwdBlock}
use Rattle.awd_codes.specs.declared.records.AwdFault.{AwdFault}
use Rattle.awd_codes.specs.declared.records.AwdHeader.{AwdHeader}
use Rattle.awd_codes.specs.Records.{outcome_code, header_code, block_code}
use Rattle.awd_codes.specs.Listings.{ended, listing_by, listing_of, blocks_of}
use Rattle.awd_codes.specs.Writing.{over}

-- a session over the document, as it was made
module _ (B : List ℕ) (s : State) (is : s ≡ fresh B) where
  -- and after its opening and all its answers to next
  module _ (t u : State) (opened : t ≡ after_open s) (all : u ≡ asked 512 t) where
    pub all_asked : u ≡ ended B
    all_asked = all ∙ ap (asked 512) (opened ∙ ap after_open is)

    pub listed : (h : Header) (count : ℕ) (fault : AwdFault) (header : AwdHeader) → Ok h ≡ open_answer s → count ≡ u.taken → fault ≡ outcome_code (next_answer u)
        → header ≡ header_code h → record { length = length B; count = count; fault = fault; header = header; opened = true } ≡ listing_of B
    listed h count fault header told counted refused says =
        let many : count ≡ (ended B).taken = counted ∙ ap (λ (v : State). v.taken) all_asked in
        let why : fault ≡ outcome_code (next_answer (ended B)) = refused ∙ ap (λ v. outcome_code (next_answer v)) all_asked in
        let by : listing_by B (Ok h) ≡ listing_of B = ap (listing_by B) (told ∙ ap open_answer is) in
        cc

  -- a document that is refused has no blocks
  pub no_blocks : (f : Report) (before : List AwdBlock) → Err f ≡ open_answer s → before ≡ over (blocks_of B) before
  no_blocks f before told =
      let shut : after_open (fresh B) ≡ fresh B = rw (sym (told ∙ ap open_answer is)) refl in
      let none : ended B ≡ fresh B = ap (asked 512) shut ∙ asked_stays 512 (fresh B) refl in
      let untaken : blocks_of B ≡ [] = ap (λ v. map block_code (records_of v)) none in
      ap (λ ys. ys ++ before) (sym (take_all (length before) [] (omega arith))) ∙ ap (λ xs. over xs before) (sym untaken)
