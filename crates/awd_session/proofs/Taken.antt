-- What follows from the blocks that a session has taken.
use Rattle.std.proofs.Common.{◌≡◌, ℕ, ◌+◌, ◌≤◌, true, leb, cond, List, length, drop, Some, None, Ok, Err, Option, Result, IfSome, is_some, sym, refl, ap, ◌∙◌, subst, arith}
use Rattle.std.specs.Result.{result_and}
use Rattle.std.proofs.lemmas.Bool.{leb-true}
use Rattle.awd_fault.specs.Faults.{Report}
use Rattle.awd_block_fault.proofs.Passed.{allowed-ok}
use Rattle.awd_header.specs.Header.{opening, header_of, flags_of, judged, rules}
use Rattle.awd_header.specs.declared.Header.{Header}
use Rattle.awd_roster.specs.Table.{but_parents}
use Rattle.awd_blocks.specs.Blocks.{block_at}
use Rattle.awd_blocks.specs.Records.{read_block}
use Rattle.awd_blocks.specs.Lists.{Walk, walk, read_blocks}
use Rattle.awd_blocks.proofs.Rows.{read_walked, read_inside}
use Rattle.awd_edits.specs.Overlay.{overlay}
use Rattle.awd_edits.proofs.Lays.{length_overlay}
use Rattle.awd_changes.specs.Standing.{may_stand}
use Rattle.awd_changes.proofs.Behind.{block_behind, block_at_behind}
use Rattle.awd_changes.proofs.Standing.{Under, under, same-walk, stand_further}
use Rattle.awd_session.specs.State.{header_answer}
use Rattle.awd_source.specs.declared.source.Source.{Ghosts}
use Rattle.awd_session.specs.declared.session.Session.{Session}
use Rattle.awd_session.specs.View.{view}

opened-by : (B : List ℕ) (h : Header) (r : Result (Unit {0}) Report) → judged (rules B) ≡ r → result_and r (Ok (header_of B)) ≡ Ok h
    → (12 ≤ length B) × (h ≡ header_of B)
opened-by B h (Ok u) is told = (leb-true 12 (length B) (allowed-ok (leb 12 (length B)) _ _ _ is).0, cc told)
opened-by B h (Err f) is told = absurd (cc told)

-- a document that was opened is as long as its header at least, and its header was told
pub opened_header : (B : List ℕ) (h : Header) → opening B ≡ Ok h → (12 ≤ length B) × (h ≡ header_of B)
opened_header B h is = opened-by B h (judged (rules B)) refl is

pub header_kept : (B : List ℕ) (o : Option Header) (h : Header) → o ≡ Some h → IfSome o (λ h. opening B ≡ Ok h)
    → (12 ≤ length B) × (h ≡ header_of B)
header_kept B o h is told = opened_header B h (subst (λ o. IfSome o (λ h. opening B ≡ Ok h)) is told)

pub opened_long : (B : List ℕ) (o : Option Header) → is_some o ≡ true → IfSome o (λ h. opening B ≡ Ok h) → 12 ≤ length B
opened_long B (Some h) opened told = (opened_header B h told).0
opened_long B None opened told = absurd (cc opened)

-- what is open has a header
pub open-some : (o : Option Header) → is_some o ≡ true → o ≡ None → ⊥
open-some (Some h) opened none = absurd (cc none)
open-some None opened none = absurd (cc opened)

-- what is kept in a session is what the walk over its blocks tells
pub walk_taken : (B : List ℕ) (n : ℕ) (w : Walk) → read_blocks B n ≡ Ok w → walk B n ≡ w
walk_taken B n w is = sym (read_walked B n w is)

-- of what a session keeps
module _ {A : Type 0} {source : Ghosts A} (s : Session A source) where
  abbrev S : List ℕ
  S = source.bytes s.source

  abbrev O : List ℕ
  O = overlay S s.edits

  abbrev n : ℕ
  n = length s.roster

  u : Under S s.edits n
  u = under S s.edits n s.stand

  -- what is read is what the session keeps
  now-is : u.now ≡ record { records = s.roster; end = s.end }
  now-is = same-walk u.now (record { records = s.roster; end = s.end }) (sym u.read_now ∙ s.taken)

  pub walked : walk O n ≡ record { records = s.roster; end = s.end }
  walked = walk_taken O n (record { records = s.roster; end = s.end }) s.taken

  pub long : 12 ≤ length S → 12 ≤ length O
  long h = omega (arith, h, length_overlay S s.edits)

  -- the header that was told is that of the session's own bytes
  pub header_now : (h : Header) → s.header ≡ Some h → (12 ≤ length S) × (h ≡ header_of O) × (h.flags ≡ flags_of S) × (h.flags ≡ flags_of O)
  header_now h is =
      let (fits, own) = header_kept S s.header h is s.told in
      let opened = u.opening ∙ subst (λ o. IfSome o (λ h. opening S ≡ Ok h)) is s.told in
      let (fits-O, now) = opened_header O h opened in
      (fits, now, ap (λ (x : Header). x.flags) own, ap (λ (x : Header). x.flags) now)

  -- where the taken blocks end, inside the bytes
  pub end_inside : 12 ≤ length S → s.end ≤ length O
  end_inside h = (read_inside O n (record { records = s.roster; end = s.end }) (long h) s.taken).1

  same-behind : drop s.end O ≡ drop s.end S
  same-behind = subst (λ w. drop w.end O ≡ drop w.end S) now-is u.behind

  -- the next block is the same in the source's bytes
  pub next_below : 12 ≤ length S → read_block (flags_of S) s.roster S s.end ≡ read_block (flags_of O) s.roster O s.end
  next_below h =
      ap (λ flags. read_block flags s.roster S s.end) (sym u.flags)
      ∙ sym (block_behind O S s.end (end_inside h) same-behind (length_overlay S s.edits) (flags_of O) s.roster s.roster refl)

  -- read with the header that was told
  pub read_below : (h : Header) → s.header ≡ Some h → read_block h.flags s.roster S s.end ≡ read_block (flags_of O) s.roster O s.end
  read_below h is = let (long, now, below, own) = header_now h is in ap (λ flags. read_block flags s.roster S s.end) below ∙ next_below long

  -- and where it is taken, the edits may stand over one block more
  pub stand_next : 12 ≤ length S → (x : ℕ) → block_at (flags_of O) s.roster O s.end ≡ Ok x → may_stand S s.edits (n + 1) ≡ true
  stand_next h x is =
      let kin : but_parents s.roster ≡ but_parents u.bare.records = sym (ap (λ w. but_parents w.records) now-is) ∙ u.kin in
      let at : s.end ≡ u.bare.end = sym (ap (λ w. w.end) now-is) ∙ u.end in
      let below = sym (block_at_behind O S s.end (end_inside h) same-behind (length_overlay S s.edits) (flags_of O) s.roster u.bare.records kin) ∙ is in
      let bare-flags = subst (λ flags. block_at flags u.bare.records S s.end ≡ Ok x) u.flags below in
      stand_further S s.edits n u.bare x u.read_bare (subst (λ q. block_at (flags_of S) u.bare.records S q ≡ Ok x) at bare-flags) s.stand

  told-by : (o : Option Header) → ((h : Header) → o ≡ Some h → h ≡ header_of O) → o ≡ cond (is_some o) (Some (header_of O)) None
  told-by None is = refl
  told-by (Some h) is = ap Some (is h refl)

  -- what is told of the header
  pub header_told : s.header ≡ header_answer (view s)
  header_told = told-by s.header (λ h is. (header_now h is).1)
