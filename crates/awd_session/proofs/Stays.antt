-- What is taken stays: from one call to the next.
use Rattle.std.proofs.Common.{◌≡◌, ℕ, zero, suc, ◌+◌, ◌≤◌, Bool, List, [], ◌∷◌, ◌++◌, length, take, Ok, sym, refl, ap, ◌∙◌, arith, length-append}
use Rattle.std.proofs.lemmas.List.{take_all, take-take, take-append-le}
use Rattle.awd_header.specs.Header.{flags_of}
use Rattle.awd_roster.specs.declared.record.Record.{Record}
use Rattle.awd_roster.specs.Table.{but_parents}
use Rattle.awd_roster.proofs.Kin.{length_kin, take_kin}
use Rattle.awd_blocks.specs.Heads.{size_at, body_at}
use Rattle.awd_blocks.specs.Records.{record_at}
use Rattle.awd_blocks.specs.Lists.{walk_from, read_blocks, and_at}
use Rattle.awd_edits.specs.declared.edit.Edit.{Edit}
use Rattle.awd_edits.specs.Overlay.{overlay}
use Rattle.awd_session.specs.State.{State, bytes_of, records_of}
use Rattle.awd_session.specs.Laws.{Kept, Stays}
use Rattle.awd_session.proofs.Taken.{walk_taken}

-- a walk over so many blocks tells of so many
walked-many : (B : List ℕ) (n : ℕ) (before : List Record) (at : ℕ) → length (walk_from B n before at).records ≡ length before + n
walked-many B zero before at = omega arith
walked-many B (suc n) before at =
    let on = walked-many B n (and_at before B at) (body_at at + size_at B at) in
    omega (arith, on, length-append before (record_at (flags_of B) B at ∷ []))

-- the records of a session are as many as its taken blocks
records_many : (s : State) → length (records_of s) ≡ s.taken
records_many s = let many = walked-many (bytes_of s) s.taken [] 12 in omega (arith, many)

-- where as many are taken, it is enough that the records are the same but for their parents
stays_kin : (s t : State) → s.taken ≡ t.taken → but_parents (records_of t) ≡ but_parents (records_of s) → Stays s t
stays_kin s t many kin =
    record {
      few = omega (arith, many);
      told = ap but_parents (take_all s.taken (records_of t) (omega (arith, many, records_many t))) ∙ kin;
    }

-- where nothing changes
pub stays_same : (s : State) → Stays s s
stays_same s = stays_kin s s refl refl

-- where the records are the first of those after
pub stays_kept : (s t : State) → Kept s t → Stays s t
stays_kept s t (rs, is) =
    let more : length (records_of t) ≡ length (records_of s) + length rs = ap length is ∙ length-append (records_of s) rs in
    let first : take s.taken (records_of s ++ rs) ≡ records_of s =
    take-append-le s.taken (records_of s) rs (omega (arith, records_many s)) ∙ take_all s.taken (records_of s) (omega (arith, records_many s)) in
    record {
      few = omega (arith, more, records_many s, records_many t);
      told = ap (λ xs. but_parents (take s.taken xs)) is ∙ ap but_parents first;
    }

-- where other edits stand, and what is read under them is the same but for parents
pub stays_read : (S : List ℕ) (opened : Bool) (es now : List Edit) (rs ss : List Record) (end end' : ℕ)
    → read_blocks (overlay S es) (length rs) ≡ Ok (record { records = rs; end = end })
    → read_blocks (overlay S now) (length ss) ≡ Ok (record { records = ss; end = end' })
    → but_parents ss ≡ but_parents rs
    → Stays (record { source = S; opened = opened; taken = length rs; edits = es })
    (record { source = S; opened = opened; taken = length ss; edits = now })
stays_read S opened es now rs ss end end' before after kin =
    stays_kin _ _ (sym (length_kin ss rs kin))
    (ap (λ w. but_parents w.records) (walk_taken (overlay S now) (length ss) _ after)
    ∙ kin ∙ ap (λ w. but_parents w.records) (sym (walk_taken (overlay S es) (length rs) _ before)))

-- and from call to call
pub stays_on : (s t u : State) → Stays s t → Stays t u → Stays s u
stays_on s t u one two =
    let (few, more) : (s.taken ≤ t.taken) × (t.taken ≤ u.taken) = (one.few, two.few) in
    record {
      few = omega (arith, few, more);
      told =
          ap but_parents (sym (take-take s.taken t.taken (records_of u) few))
          ∙ take_kin s.taken (take t.taken (records_of u)) (records_of t) two.told
          ∙ one.told;
    }
