-- What an edit that a call makes leaves of what a session keeps.
use Rattle.std.proofs.Common.{◌≡◌, ℕ, ◌^◌, ◌<◌, Bool, true, false, not, cond, List, [], ◌∷◌, length, take, drop, Some, None, Ok, Err, Option, IfSome, is_some, sym, refl, ap, ◌∙◌, subst}
use Rattle.std.specs.Prelude.{slice_get, is_ok}
use Rattle.std.specs.Option.{ok_or}
use Rattle.std.proofs.lemmas.Bool.{lt-ltb, and_parts}
use Rattle.awd_fault.specs.Faults.{Report}
use Rattle.awd_source.specs.Bytes.{le, part}
use Rattle.awd_header.specs.Header.{opening, flags_of}
use Rattle.awd_roster.specs.declared.record.Record.{Record}
use Rattle.awd_roster.specs.Table.{reparented, but_parents}
use Rattle.awd_contents.specs.declared.contents.Cell as content
use Rattle.awd_roster.proofs.Kin.{length_kin}
use Rattle.awd_blocks.specs.Lists.{Walk, read_blocks}
use Rattle.awd_edits.specs.declared.edit.Edit.{Edit}
use Rattle.awd_edits.specs.declared.edit.Field.{Field}
use Rattle.awd_edits.specs.declared.edit.Field.TheVariants.{Parent, Material, Cell}
use Rattle.awd_edits.specs.Overlay.{bytes_laid, overlay}
use Rattle.awd_edits.specs.Table.{added}
use Rattle.awd_edits.proofs.Lays.{spelled_4}
use Rattle.awd_changes.specs.Fields.{field_place}
use Rattle.awd_changes.specs.Standing.{may_lie, may_stand}
use Rattle.awd_changes.proofs.Laid.{records_after, after_kin}
use Rattle.awd_changes.proofs.Standing.{stand_laid, read_undone}
use Rattle.awd_session.specs.State.{State, records_of}
use Rattle.awd_session.specs.Edits.{Asked, about, reparenting, dressing, nudging, with_edits, after_edit, undoing, after_undo}
use Rattle.awd_session.specs.Laws.{Stays}
use Rattle.awd_source.specs.declared.source.Source.{Ghosts}
use Rattle.awd_session.specs.declared.session.Session.{Session}
use Rattle.awd_session.specs.View.{view}
use Rattle.awd_session.proofs.Taken.{open-some, walked, walk_taken}
use Rattle.awd_session.proofs.Made.{Made, asked_ok, address_made, cell_made}
use Rattle.awd_session.proofs.Stays.{stays_read}

-- the state of a session that keeps other records and edits than it did
abbrev pub after : {A : Type 0} {source : Ghosts A} → Session A source → List Record → List Edit → State
after {A} {source} s rs now = record { source = source.bytes s.source; opened = is_some s.header; taken = length rs; edits = now }

-- what a call that edits leaves: what a session must keep, and what the call ensures of it
pub record Left {A : Type 0} {source : Ghosts A} (s : Session A source) (rs : List Record) (now : List Edit) (is : State) : Type 0 where
  pub told : IfSome s.header (λ h. opening (source.bytes s.source) ≡ Ok h)
  pub taken : read_blocks (overlay (source.bytes s.source) now) (length rs) ≡ Ok (record { records = rs; end = s.end })
  pub stand : may_stand (source.bytes s.source) now (length rs) ≡ true
  -- only an open session is edited
  pub closed : s.header ≡ None → length rs ≡ 0
  pub unedited : s.header ≡ None → now ≡ []
  pub state : after s rs now ≡ is
  pub stays : Stays (view s) (after s rs now)
  -- its records are those that it keeps, as they were before
  pub records : records_of (after s rs now) ≡ rs
  pub before : records_of (view s) ≡ s.roster

module _ {A : Type 0} {source : Ghosts A} (s : Session A source) where
  abbrev S : List ℕ
  S = source.bytes s.source

  abbrev O : List ℕ
  O = overlay S s.edits

  abbrev n : ℕ
  n = length s.roster

  abbrev w : Walk
  w = record { records = s.roster; end = s.end }

  -- it follows from what is read of as many blocks, where the records are the same but for their parents
  left : (rs : List Record) (now : List Edit) → read_blocks (overlay S now) n ≡ Ok (record { records = rs; end = s.end })
      → may_stand S now n ≡ true → but_parents rs ≡ but_parents s.roster → is_some s.header ≡ true
      → {is : State} → record { source = S; opened = is_some s.header; taken = n; edits = now } ≡ is → Left s rs now is
  left rs now taken stand kin opened state =
      let many = length_kin rs s.roster kin in
      let read : read_blocks (overlay S now) (length rs) ≡ Ok (record { records = rs; end = s.end }) = rw (many) taken in
      record {
        told = s.told;
        taken = read;
        stand = rw (many) stand;
        closed = λ none. absurd (open-some s.header opened none);
        unedited = λ none. absurd (open-some s.header opened none);
        state = ap (λ k. record { source = S; opened = is_some s.header; taken = k; edits = now }) many ∙ state;
        stays = stays_read S (is_some s.header) s.edits now s.roster rs s.end s.end s.taken read kin;
        records = ap (λ w. w.records) (walk_taken (overlay S now) (length rs) _ read);
        before = ap (λ w. w.records) (walked s);
      }

  module _ (number : ℕ) (f : Field) (e : Edit) (made : Made (view s) number f e) where
    added_is : added s.edits e ≡ e ∷ s.edits
    added_is = rw (lt-ltb (length s.edits) 256 made.room) refl

    found : slice_get s.roster e.block ≡ Some made.of.block
    found = ap (slice_get s.roster) made.block ∙ subst (λ v. slice_get v.records number ≡ Some made.of.block) (walked s) made.of.found

    placed : field_place (flags_of O) (take e.block s.roster) O made.of.block e.field ≡ Ok made.place
    placed =
        ap (λ k. field_place (flags_of O) (take k s.roster) O made.of.block e.field) made.block
        ∙ ap (field_place (flags_of O) (take number s.roster) O made.of.block) made.field
        ∙ subst (λ v. field_place (flags_of O) (take number v.records) O made.of.block f ≡ Ok made.place) (walked s) made.of.placed

    -- the edit stands, as the latest; the blocks tell what they do where it lies on the field that was named
    left_edited : (rs : List Record) → rs ≡ records_after f s.roster number (le (bytes_laid e.laid)) → (asked : Asked Edit) → asked ≡ Ok e
        → (now : List Edit) → now ≡ added s.edits e → Left s rs now (after_edit (view s) asked)
    left_edited rs is asked is-asked now is-now =
        let v = le (bytes_laid e.laid) in
        let (stand, read) = stand_laid S e s.edits n w made.of.block made.place s.stand s.taken found placed made.at made.size made.good in
        let named = ap (λ k. records_after e.field s.roster k v) made.block ∙ ap (λ g. records_after g s.roster number v) made.field ∙ sym is in
        rw (is-now, added_is)
        (left rs (e ∷ s.edits) (read ∙ ap (λ xs. Ok (record { records = xs; end = s.end })) named) stand
        (ap but_parents is ∙ after_kin f s.roster number v) made.of.opened (ap (after_edit (view s)) (sym is-asked)))

  -- a call that gave another parent
  pub reparent_left : (number address : ℕ) → address < 2 ^ 32 → (e : Edit) → Ok e ≡ about number (reparenting (view s) number address)
      → (rs : List Record) → rs ≡ reparented s.roster number (Some address) → (now : List Edit) → now ≡ added s.edits e
      → Left s rs now (after_edit (view s) (reparenting (view s) number address))
  reparent_left number address fits e answered rs is now is-now =
      let asked = asked_ok number (reparenting (view s) number address) e answered in
      let (made, lays) = address_made (view s) number Parent address fits tt e asked in
      let spelled : le (bytes_laid e.laid) ≡ address = ap (λ l. le (bytes_laid l)) lays ∙ spelled_4 address fits in
      let told-so = is ∙ ap (λ v. reparented s.roster number (Some v)) (sym spelled) in
      left_edited number Parent e made rs told-so (reparenting (view s) number address) asked now is-now

  -- one that gave another material leaves the records
  pub dress_left : (number position address : ℕ) → address < 2 ^ 32 → (e : Edit) → Ok e ≡ about number (dressing (view s) number position address)
      → (now : List Edit) → now ≡ added s.edits e → Left s s.roster now (after_edit (view s) (dressing (view s) number position address))
  dress_left number position address fits e answered now is-now =
      let asked = asked_ok number (dressing (view s) number position address) e answered in
      let (made, lays) = address_made (view s) number (Material position) address fits tt e asked in
      left_edited number (Material position) e made s.roster refl (dressing (view s) number position address) asked now is-now

  -- and so does one that gave a cell another content
  pub nudge_left : (number cell : ℕ) (c : content.Cell) (e : Edit) → Ok e ≡ about number (nudging (view s) number cell c)
      → (now : List Edit) → now ≡ added s.edits e → Left s s.roster now (after_edit (view s) (nudging (view s) number cell c))
  nudge_left number cell c e answered now is-now =
      let asked = asked_ok number (nudging (view s) number cell c) e answered in
      let (made, lays) = cell_made (view s) number cell c e asked in
      left_edited number (Cell cell) e made s.roster refl (nudging (view s) number cell c) asked now is-now

-- the latest of some edits, and the others
first-rest : (es : List Edit) (e : Edit) → slice_get es 0 ≡ Some e → es ≡ e ∷ drop 1 es
first-rest (x ∷ xs) e is = let same : x ≡ e = cc is in ap (λ y. y ∷ xs) same
first-rest [] e is = absurd (cc is)

undo-found : (opened : Bool) (o : Option Edit) (e : Edit) → cond {A = Asked Edit} (not opened) (Err 8) (ok_or o 25) ≡ Ok e
    → (opened ≡ true) × (o ≡ Some e)
undo-found true (Some x) e is = (refl, let same : x ≡ e = cc is in ap Some same)
undo-found true None e is = absurd (cc is)
undo-found false o e is = absurd (cc is)

-- where another field than a parent is undone, the records stay
not_parent : (f : Field) (rs : List Record) (k v : ℕ) → (f ≡ Parent → ⊥) → rs ≡ records_after f rs k v
not_parent Parent rs k v other = absurd (other refl)
not_parent (Material i) rs k v other = refl
not_parent (Cell c) rs k v other = refl

-- undone
module _ {A : Type 0} {source : Ghosts A} (s : Session A source) (e : Edit) (answered : Ok e ≡ about 0 (undoing (view s))) where
  abbrev rest : List Edit
  rest = drop 1 s.edits

  -- the bytes that show again, as a number
  abbrev old : ℕ
  old = le (part (overlay (source.bytes s.source) rest) e.place 4)

  left_undone : (rs : List Record) → rs ≡ records_after e.field s.roster e.block old → (now : List Edit) → now ≡ rest
      → Left s rs now (after_undo (view s))
  left_undone rs is now is-now =
      let S = source.bytes s.source in
      let n = length s.roster in
      let w : Walk = record { records = s.roster; end = s.end } in
      let asked = asked_ok 0 (undoing (view s)) e answered in
      let (opened, first) = undo-found (is_some s.header) (slice_get s.edits 0) e asked in
      let all = first-rest s.edits e first in
      let stand = subst (λ xs. may_stand S xs n ≡ true) all s.stand in
      let read = read_undone S e rest n w stand (subst (λ xs. read_blocks (overlay S xs) n ≡ Ok w) all s.taken) in
      rw (is-now)
      (left s rs rest (read ∙ ap (λ xs. Ok (record { records = xs; end = s.end })) (sym is)) (and_parts (may_lie S n e) (may_stand S rest n) stand).1
      (ap but_parents is ∙ after_kin e.field s.roster e.block old) opened (rw (asked) refl))

  -- where a parent is undone, the record tells the one that shows again
  pub parent_left : e.field ≡ Parent → (v : ℕ) → v ≡ old → (rs : List Record) → rs ≡ reparented s.roster e.block (Some v)
      → (now : List Edit) → now ≡ rest → Left s rs now (after_undo (view s))
  parent_left field v shows rs is now is-now =
      let told-so = is ∙ ap (λ v. reparented s.roster e.block (Some v)) shows ∙ ap (λ f. records_after f s.roster e.block old) (sym field) in
      left_undone rs told-so now is-now

  -- where another field is, the records stay
  pub other_left : (e.field ≡ Parent → ⊥) → (now : List Edit) → now ≡ rest → Left s s.roster now (after_undo (view s))
  other_left other now is-now = left_undone s.roster (not_parent e.field s.roster e.block old other) now is-now

-- where there is none to undo nothing changes
pub after_not_undone : (s : State) (x : Report) → Err x ≡ about 0 (undoing s) → s ≡ after_undo s
after_not_undone s x is = left-by (undoing s) is
  where
    left-by : (a : Asked Edit) → Err x ≡ about 0 a → s ≡ cond (is_ok a) (with_edits s (drop 1 s.edits)) s
    left-by (Ok e) is = absurd (cc is)
    left-by (Err c) is = refl
