-- The edits that calls make: what is so of them, and what they leave of a session.
use Rattle.std.proofs.Common.{◌≡◌, ℕ, ◌^◌, ◌<◌, Bool, true, false, not, cond, eqb, ltb, List, length, take, Some, None, Ok, Err, Option, sym, refl, ap, ◌∙◌, subst}
use Rattle.std.specs.Int.{w32, to_le_bytes}
use Rattle.std.specs.Option.{ok_or}
use Rattle.std.specs.Result.{result_map_both}
use Rattle.std.proofs.lemmas.Bool.{cond_both, eqb-true, ltb-true, not-false}
use Rattle.awd_fault.specs.Faults.{Report, of_call}
use Rattle.awd_source.specs.Bytes.{le}
use Rattle.awd_header.specs.Header.{flags_of}
use Rattle.awd_roster.specs.declared.record.Record.{Record}
use Rattle.awd_roster.specs.declared.record.Target.TheVariants as targets
use Rattle.awd_roster.specs.Addresses.{lawful_address}
use Rattle.awd_blocks.specs.Heads.{body_at}
use Rattle.awd_blocks.specs.Records.{has_head, matrix_width}
use Rattle.awd_contents.specs.Contents.{is_mesh, material_place, cell_place}
use Rattle.awd_contents.specs.declared.contents.Cell as content
use Rattle.awd_edits.specs.declared.edit.Edit.{Edit}
use Rattle.awd_edits.specs.declared.edit.Field.{Field}
use Rattle.awd_edits.specs.declared.edit.Field.TheVariants.{Parent, Material, Cell}
use Rattle.awd_edits.specs.declared.edit.Laid.{Laid}
use Rattle.awd_edits.specs.declared.edit.Laid.TheVariants.{Four}
use Rattle.awd_edits.specs.Overlay.{bytes_laid}
use Rattle.awd_edits.proofs.Lays.{length_4, spelled_4}
use Rattle.awd_changes.specs.Fields.{Place, address_place, cell_of_width, field_place}
use Rattle.awd_session.specs.State.{State, bytes_of, records_of, record_answer}
use Rattle.awd_session.specs.Edits.{Asked, and_then, about, spot, place_in, lawful_in, with_room, address_on, address_edit, content_on, laid_by, not_a_number, nudging, after_edit}

-- a field that a call names was found in a block of an open session
pub record PlaceOf (s : State) (number : ℕ) (f : Field) (p : Place) : Type 0 where
  pub block : Record
  pub opened : s.opened ≡ true
  pub found : record_answer s number ≡ Some block
  pub placed : field_place (flags_of (bytes_of s)) (take number (records_of s)) (bytes_of s) block f ≡ Ok p

module _ (s : State) (number : ℕ) (f : Field) where
  abbrev placed-in : Record → Asked Place
  placed-in r = field_place (flags_of (bytes_of s)) (take number (records_of s)) (bytes_of s) r f

  place-found : (o : Option Record) → record_answer s number ≡ o → (p : Place) → s.opened ≡ true → and_then (ok_or o 18) placed-in ≡ Ok p
      → PlaceOf s number f p
  place-found (Some r) found p opened is = record { block = r; opened = opened; found = found; placed = is }
  place-found None found p opened is = absurd (cc is)

  pub place_of : (p : Place) → place_in s number f ≡ Ok p → PlaceOf s number f p
  place_of p =
      cond_both (not s.opened) (Err 8) (and_then (ok_or (record_answer s number) 18) placed-in) (λ a. a ≡ Ok p → PlaceOf s number f p)
      (λ shut is. absurd (cc is))
      (λ opened is. place-found (record_answer s number) refl p (not-false s.opened opened) is)

-- a place, from what is told of it
pub told_place : (number : ℕ) (P : Asked Place) (at size : ℕ) → Ok (at, size) ≡ result_map_both spot (λ f. f) (about number P)
    → (p : Place) × (P ≡ Ok p) × (p.at ≡ at) × (p.size ≡ size)
told_place number (Ok p) at size is =
    let same : ◌≡◌ {A = ℕ × ℕ} (at, size) (spot p) = cc is in
    (p, refl, sym (ap (λ x. x.0) same), sym (ap (λ x. x.1) same))
told_place number (Err c) at size is = absurd (cc is)

-- a call is refused where its field is
pub refused_place : (number : ℕ) (P : Asked Place) (next : Place → Asked Edit) (x : Report)
    → Err x ≡ result_map_both spot (λ f. f) (about number P) → Err x ≡ about number (and_then P next)
refused_place number (Ok p) next x is = absurd (cc is)
refused_place number (Err c) next x is = let same : x ≡ of_call c 0 number = cc is in ap Err same

-- what is asked came to what is answered
pub asked_ok : {A : Type 0} (number : ℕ) (a : Asked A) (x : A) → Ok x ≡ about number a → a ≡ Ok x
asked_ok number (Ok y) x is = let same : x ≡ y = cc is in ap Ok (sym same)
asked_ok number (Err c) x is = absurd (cc is)

-- a place for an address holds four bytes, and those that are allowed there
abbrev ForAddress : (ℕ → Bool) → Place → Type 0
ForAddress lawful p = (p.size ≡ 4) × ((address : ℕ) → p.allowed address ≡ lawful address)

address-there : (lawful : ℕ → Bool) (q : ℕ) (p : Place) → ◌≡◌ {A = Asked Place} (Ok (address_place lawful q)) (Ok p) → ForAddress lawful p
address-there lawful q p is =
    let same : address_place lawful q ≡ p = cc is in
    subst (ForAddress lawful) same (refl, λ address. refl)

address-maybe : (lawful : ℕ → Bool) (o : Option ℕ) (p : Place) → result_map_both {E = ℕ} (address_place lawful) (λ c. c) (ok_or o 21) ≡ Ok p
    → ForAddress lawful p
address-maybe lawful (Some q) p is = address-there lawful q p is
address-maybe lawful None p is = absurd (cc is)

-- a field of addresses
abbrev Addressed : Field → Type 0
Addressed Parent = Unit {0}
Addressed (Material position) = Unit {0}
Addressed (Cell cell) = ⊥

address-in : (flags : ℕ) (before : List Record) (B : List ℕ) (r : Record) (f : Field) (p : Place) → field_place flags before B r f ≡ Ok p
    → Addressed f
    → ForAddress (lawful_in f before) p
address-in flags before B r Parent p is for =
    let lawful = lawful_address targets.Parent before in
    cond_both (has_head r.namespace r.kind) (Ok (address_place lawful (body_at r.place))) (Err 19) (λ a. a ≡ Ok p → ForAddress lawful p)
    (λ has. address-there lawful (body_at r.place) p)
    (λ has-not found. absurd (cc found))
    is
address-in flags before B r (Material i) p is for =
    let lawful = lawful_address targets.Material before in
    let there : Asked Place = result_map_both (address_place lawful) (λ c. c) (ok_or (material_place B r i) 21) in
    cond_both (is_mesh r) there (Err 19) (λ a. a ≡ Ok p → ForAddress lawful p)
    (λ has. address-maybe lawful (material_place B r i) p)
    (λ has-not found. absurd (cc found))
    is
address-in flags before B r (Cell k) p is for = absurd for

-- and any bytes may stand in a cell
cell-maybe : (width : ℕ) (o : Option ℕ) (p : Place) → result_map_both {E = ℕ} (cell_of_width width) (λ c. c) (ok_or o 22) ≡ Ok p → (v : ℕ)
    → p.allowed v ≡ true
cell-maybe width (Some q) p is v =
    let same : cell_of_width width q ≡ p = cc is in
    ap (λ x. x.allowed v) (sym same)
cell-maybe width None p is v = absurd (cc is)

any-in : (flags : ℕ) (before : List Record) (B : List ℕ) (r : Record) (k : ℕ) (p : Place) → field_place flags before B r (Cell k) ≡ Ok p
    → (v : ℕ) → p.allowed v ≡ true
any-in flags before B r k p is =
    let width = matrix_width flags B r.place in
    let there : Asked Place = result_map_both (cell_of_width width) (λ c. c) (ok_or (cell_place flags B r k) 22) in
    cond_both (has_head r.namespace r.kind) there (Err 19) (λ a. a ≡ Ok p → (v : ℕ) → p.allowed v ≡ true)
    (λ has. cell-maybe width (cell_place flags B r k) p)
    (λ has-not found. absurd (cc found))
    is

-- so what is allowed in a place of a field is what may stand there
allowed-in : (flags : ℕ) (before : List Record) (B : List ℕ) (r : Record) (f : Field) (p : Place) → field_place flags before B r f ≡ Ok p
    → (address : ℕ) → p.allowed address ≡ lawful_in f before address
allowed-in flags before B r Parent p is = (address-in flags before B r Parent p is tt).1
allowed-in flags before B r (Material i) p is = (address-in flags before B r (Material i) p is tt).1
allowed-in flags before B r (Cell k) p is = any-in flags before B r k p is

-- what is so of an edit that a call makes: it lies on a field of a taken block of an open session, lays what may stand there, and fewer than 256
-- stood
pub record Made (s : State) (number : ℕ) (f : Field) (e : Edit) : Type 0 where
  pub place : Place
  pub of : PlaceOf s number f place
  pub block : e.block ≡ number
  pub field : e.field ≡ f
  pub at : e.place ≡ place.at
  pub size : length (bytes_laid e.laid) ≡ place.size
  pub good : place.allowed (le (bytes_laid e.laid)) ≡ true
  pub room : length s.edits < 256

module _ (s : State) (number : ℕ) where
  -- of an edit that there was room for
  with-place : (f : Field) (laid : Laid) (p : Place) → place_in s number f ≡ Ok p → length (bytes_laid laid) ≡ p.size
      → p.allowed (le (bytes_laid laid)) ≡ true → (e : Edit)
      → with_room s (record { block = number; field = f; place = p.at; laid = laid }) ≡ Ok e → Made s number f e × (e.laid ≡ laid)
  with-place f laid p found size good e =
      let made : Edit = record { block = number; field = f; place = p.at; laid = laid } in
      cond_both (ltb (length s.edits) 256) (Ok made) (Err 20) (λ a. a ≡ Ok e → Made s number f e × (e.laid ≡ laid))
      (λ room is.
      let same : made ≡ e = cc is in
      let of = place_of s number f p found in
      let few = ltb-true (length s.edits) 256 room in
      let so : Made s number f made = record { place = p; of = of; block = refl; field = refl; at = refl; size = size; good = good; room = few } in
      let whole : Made s number f made × (made.laid ≡ laid) = (so, refl) in
      subst (λ x. Made s number f x × (x.laid ≡ laid)) same whole)
      (λ full is. absurd (cc is))

  -- of one that lays an address
  address-placed : (f : Field) (address : ℕ) → address < 2 ^ 32 → Addressed f → (P : Asked Place) → place_in s number f ≡ P → (e : Edit)
      → and_then P (address_on s number f address) ≡ Ok e → Made s number f e × (e.laid ≡ Four (to_le_bytes w32 address))
  address-placed f address fits for (Ok p) found e is =
      let of = place_of s number f p found in
      let (four, allowed) = address-in (flags_of (bytes_of s)) (take number (records_of s)) (bytes_of s) of.block f p of.placed for in
      let laid = Four (to_le_bytes w32 address) in
      let room : Asked Edit = with_room s (record { block = number; field = f; place = p.at; laid = laid }) in
      cond_both (p.allowed address) room (Err 14) (λ a. a ≡ Ok e → Made s number f e × (e.laid ≡ laid))
      (λ good. with-place f laid p found (length_4 address ∙ sym four) (ap p.allowed (spelled_4 address fits) ∙ good) e)
      (λ bad is. absurd (cc is))
      is
  address-placed f address fits for (Err c) found e is = absurd (cc is)

  pub address_made : (f : Field) (address : ℕ) → address < 2 ^ 32 → Addressed f → (e : Edit) → address_edit s number f address ≡ Ok e
      → Made s number f e × (e.laid ≡ Four (to_le_bytes w32 address))
  address_made f address fits for e is = address-placed f address fits for (place_in s number f) refl e is

  -- of one that lays a float
  cell-placed : (cell : ℕ) (c : content.Cell) (P : Asked Place) → place_in s number (Cell cell) ≡ P → (e : Edit)
      → and_then P (content_on s number cell c) ≡ Ok e
      → Made s number (Cell cell) e × (e.laid ≡ laid_by c)
  cell-placed cell c (Ok p) found e is =
      let of = place_of s number (Cell cell) p found in
      let wide = eqb (length (bytes_laid (laid_by c))) p.size in
      let room : Asked Edit = with_room s (record { block = number; field = Cell cell; place = p.at; laid = laid_by c }) in
      cond_both (not wide) (Err 23) (cond (not_a_number c) (Err 24) room) (λ a. a ≡ Ok e → Made s number (Cell cell) e × (e.laid ≡ laid_by c))
      (λ wrong is. absurd (cc is))
      (λ right.
      cond_both (not_a_number c) (Err 24) room (λ a. a ≡ Ok e → Made s number (Cell cell) e × (e.laid ≡ laid_by c))
      (λ nan is. absurd (cc is))
      (λ number-is. with-place (Cell cell) (laid_by c) p found (eqb-true (length (bytes_laid (laid_by c))) p.size (not-false wide right))
      (any-in (flags_of (bytes_of s)) (take number (records_of s)) (bytes_of s) of.block cell p of.placed (le (bytes_laid (laid_by c)))) e))
      is
  cell-placed cell c (Err cause) found e is = absurd (cc is)

  pub cell_made : (cell : ℕ) (c : content.Cell) (e : Edit) → nudging s number cell c ≡ Ok e → Made s number (Cell cell) e × (e.laid ≡ laid_by c)
  cell_made cell c e is = cell-placed cell c (place_in s number (Cell cell)) refl e is

-- what an address that is asked for comes to, where the field is there
address_is : (s : State) (number : ℕ) (f : Field) (address at size : ℕ)
    → Ok (at, size) ≡ result_map_both spot (λ x. x) (about number (place_in s number f))
    → address_edit s number f address ≡ address_on s number f address (record { at = at; size = size; allowed = lawful_in f (take number (records_of s)) })
address_is s number f address at size there =
    let (p, found, at-p, size-p) = told_place number (place_in s number f) at size there in
    let of = place_of s number f p found in
    let allowed = allowed-in (flags_of (bytes_of s)) (take number (records_of s)) (bytes_of s) of.block f p of.placed address in
    ap (λ a. and_then a (address_on s number f address)) found
    ∙ ap (λ ok. address_on s number f address (record { at = p.at; size = size; allowed = λ v. ok })) allowed
    ∙ ap (λ q. address_on s number f address (record { at = q; size = size; allowed = lawful_in f (take number (records_of s)) })) at-p

-- cause 14 where the address may not stand there
pub address_unlawful : (s : State) (number : ℕ) (f : Field) (address at size : ℕ)
    → Ok (at, size) ≡ result_map_both spot (λ x. x) (about number (place_in s number f))
    → lawful_in f (take number (records_of s)) address ≡ false → address_edit s number f address ≡ Err 14
address_unlawful s number f address at size there bad = address_is s number f address at size there ∙ rw (bad) refl

-- and the edit where it may and there is room
pub address_lawful : (s : State) (number : ℕ) (f : Field) (address at size : ℕ)
    → Ok (at, size) ≡ result_map_both spot (λ x. x) (about number (place_in s number f))
    → lawful_in f (take number (records_of s)) address ≡ true
    → address_edit s number f address ≡ with_room s (record { block = number; field = f; place = at; laid = Four (to_le_bytes w32 address) })
address_lawful s number f address at size there good = address_is s number f address at size there ∙ rw (good) refl

-- and what a float that is asked for comes to
pub content_is : (s : State) (number cell : ℕ) (c : content.Cell) (at size : ℕ)
    → Ok (at, size) ≡ result_map_both spot (λ x. x) (about number (place_in s number (Cell cell)))
    → nudging s number cell c ≡ content_on s number cell c (cell_of_width size at)
content_is s number cell c at size there =
    let (p, found, at-p, size-p) = told_place number (place_in s number (Cell cell)) at size there in
    ap (λ a. and_then a (content_on s number cell c)) found
    ∙ ap (λ n. content_on s number cell c (cell_of_width n p.at)) size-p
    ∙ ap (λ q. content_on s number cell c (cell_of_width size q)) at-p

-- where there is no room, what is asked with it is refused so; where there is, it is had
pub no_room : (s : State) (number : ℕ) (e : Edit) (x : Report) → Err x ≡ about number (with_room {A = Unit {0}} s tt)
    → Err x ≡ about number (with_room s e)
no_room s number e x =
    cond_both (ltb (length s.edits) 256) (Ok (tt {0})) (Err 20) (λ a. Err x ≡ about number a → Err x ≡ about number (with_room s e))
    (λ room is. absurd (cc is))
    (λ full is. let same : x ≡ of_call 20 0 number = cc is in ap Err same ∙ rw (full) refl)

pub is_room : (s : State) (number : ℕ) (e : Edit) (x : Unit {0}) → Ok x ≡ about number (with_room {A = Unit {0}} s tt) → with_room s e ≡ Ok e
is_room s number e x =
    cond_both (ltb (length s.edits) 256) (Ok (tt {0})) (Err 20) (λ a. Ok x ≡ about number a → with_room s e ≡ Ok e)
    (λ room is. rw (room) refl)
    (λ full is. absurd (cc is))

-- a refused edit changes nothing
pub after_refused : (s : State) (number : ℕ) (a : Asked Edit) (x : Report) → Err x ≡ about number a → s ≡ after_edit s a
after_refused s number (Ok e) x is = absurd (cc is)
after_refused s number (Err c) x is = refl
