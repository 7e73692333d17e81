-- The calls that edit, by what a session keeps.
use Rattle.std.proofs.Common.{◌≡◌, ℕ, Bool, not, cond, List, length, take, Some, Ok, Err, Result, is_some, sym, refl, ap, ◌∙◌, subst, arith}
use Rattle.std.specs.Prelude.{slice_get}
use Rattle.std.specs.Option.{ok_or}
use Rattle.std.specs.Result.{result_map_both}
use Rattle.awd_fault.specs.Faults.{of_call}
use Rattle.awd_header.specs.Header.{flags_of}
use Rattle.awd_header.specs.declared.Header.{Header}
use Rattle.awd_roster.specs.declared.record.Record.{Record}
use Rattle.awd_blocks.specs.Lists.{walk}
use Rattle.awd_contents.specs.Contents.{cut}
use Rattle.awd_edits.specs.declared.edit.Field.{Field}
use Rattle.awd_edits.specs.Overlay.{overlay}
use Rattle.awd_changes.specs.Fields.{Place, field_place, within}
use Rattle.awd_changes.proofs.Exact.{place_inside}
use Rattle.awd_session.specs.State.{record_answer}
use Rattle.awd_session.specs.Edits.{Asked, and_then, about, spot, place_in}
use Rattle.awd_source.specs.declared.source.Source.{Ghosts}
use Rattle.awd_session.specs.declared.session.Session.{Session}
use Rattle.awd_session.specs.View.{view}
use Rattle.awd_session.proofs.Taken.{walked, header_now}

-- what is told of a place in an answer
about-place : (number : ℕ) (P : Asked Place)
    → result_map_both spot (λ f. f) (about number P) ≡ result_map_both (λ x. x) (λ c. of_call c 0 number) (result_map_both spot (λ c. c) P)
about-place number (Ok p) = refl
about-place number (Err c) = refl

module _ {A : Type 0} {source : Ghosts A} (s : Session A source) where
  abbrev O : List ℕ
  O = overlay (source.bytes s.source) s.edits

  -- of an open session, and a block that is taken
  module _ (h : Header) (opened : s.header ≡ Some h) (number : ℕ) (r : Record) (is-taken : record_answer (view s) number ≡ Some r) (f : Field) where
    abbrev before : List Record
    before = take number s.roster

    flags-now : h.flags ≡ flags_of O
    flags-now = (header_now s h opened).3

    found : slice_get s.roster number ≡ Some r
    found = subst (λ w. slice_get w.records number ≡ Some r) (walked s) is-taken

    abbrev place-by : List Record → Asked Place
    place-by rs = and_then (ok_or (slice_get rs number) 18) (λ r. field_place (flags_of O) (take number rs) O r f)

    abbrev shut-or : Bool → Asked Place
    shut-or opened = cond (not opened) (Err 8) (place-by (walk O (length s.roster)).records)

    pub here : place_in (view s) number f ≡ field_place (flags_of O) before O r f
    here =
        ap (λ o. shut-or (is_some o)) opened
        ∙ ap (λ w. place-by w.records) (walked s)
        ∙ ap (λ o. and_then (ok_or o 18) (λ r. field_place (flags_of O) before O r f)) found

    uncut : (P : Result Place ℕ) → field_place (flags_of O) before O r f ≡ P → within O P ≡ result_map_both spot (λ c. c) P
    uncut (Ok p) is =
        let (low, high, inside) = place_inside O (length s.roster) (record { records = s.roster; end = s.end }) number r f p s.taken found is in
        let whole : cut O p.at ≡ p.at = omega (arith, inside) in
        ap (λ q. Ok (q, p.size)) whole
    uncut (Err c) is = refl

    -- the place is answered as it is found
    pub place_answer : (told : Result (ℕ × ℕ) ℕ) → told ≡ within O (field_place h.flags before O r f)
        → result_map_both (λ x. x) (λ c. of_call c 0 number) told ≡ result_map_both spot (λ f. f) (about number (place_in (view s) number f))
    place_answer told is =
        let P = field_place (flags_of O) before O r f in
        ap (result_map_both (λ x. x) (λ c. of_call c 0 number)) (is ∙ ap (λ flags. within O (field_place flags before O r f)) flags-now ∙ uncut P refl)
        ∙ sym (ap (λ p. result_map_both spot (λ f. f) (about number p)) here ∙ about-place number P)
