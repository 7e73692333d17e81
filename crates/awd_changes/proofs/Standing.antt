-- Edits that may stand: what they leave of the blocks, of the header, and of what lies behind the blocks; one block more, one edit more, one less.
use Rattle.std.proofs.Common.{◌≡◌, ℕ, zero, suc, ◌+◌, true, false, eqb, append-nil, List, [], ◌∷◌, ◌++◌, length, take, drop, Some, Ok, Err, Result, sym, refl, ap, ◌∙◌, subst, arith}
use Rattle.std.specs.Prelude.{slice_get, is_ok}
use Rattle.std.specs.Option.{option_map_or}
use Rattle.std.proofs.lemmas.Bool.{and_parts, and_from, eq-eqb}
use Rattle.std.proofs.lemmas.List.{take-append-le}
use Rattle.std.proofs.lemmas.Option.{slice_get_within}
use Rattle.awd_source.specs.Bytes.{le, part}
use Rattle.awd_block_fault.specs.declared.BlockFault.{BlockFault}
use Rattle.awd_header.specs.Header.{opening, flags_of}
use Rattle.awd_roster.specs.declared.record.Record.{Record}
use Rattle.awd_roster.specs.Table.{but_parents}
use Rattle.awd_blocks.specs.Blocks.{block_at}
use Rattle.awd_blocks.specs.Records.{record_at}
use Rattle.awd_blocks.specs.Lists.{Walk, walk, read_blocks, and_at}
use Rattle.awd_blocks.proofs.Rows.{read_walked, read_further, walk_further}
use Rattle.awd_edits.specs.declared.edit.Edit.{Edit}
use Rattle.awd_edits.specs.Overlay.{bytes_laid, overlay}
use Rattle.awd_changes.specs.Fields.{Place, field_place}
use Rattle.awd_changes.specs.Standing.{lies_on, may_lie, may_stand}
use Rattle.awd_changes.proofs.Stay.{lie_laid}
use Rattle.awd_changes.proofs.Laid.{Lies, lies, records_after, after_kin, header_laid, behind_laid, read_laid, told_back}

-- what blocks tell under edits, from what they tell without them
abbrev pub told_under : List Record → List Edit → List Record
told_under rs [] = rs
told_under rs (e ∷ es) = records_after e.field (told_under rs es) e.block (le (bytes_laid e.laid))

-- bytes under edits, beside the same without them
pub record Under (S : List ℕ) (es : List Edit) (n : ℕ) : Type 0 where
  -- both hold n blocks, which end at one place and tell the same but for their parents
  pub bare : Walk
  pub now : Walk
  pub read_bare : read_blocks S n ≡ Ok bare
  pub read_now : read_blocks (overlay S es) n ≡ Ok now
  pub end : now.end ≡ bare.end
  pub kin : but_parents now.records ≡ but_parents bare.records
  -- the header is the same, and what lies behind the blocks
  pub flags : flags_of (overlay S es) ≡ flags_of S
  pub opening : opening (overlay S es) ≡ opening S
  pub behind : drop now.end (overlay S es) ≡ drop now.end S
  -- and an edit may lie over both, or over neither
  pub lie : (d : Edit) → may_lie (overlay S es) n d ≡ may_lie S n d
  pub records : now.records ≡ told_under bare.records es

was-ok : (r : Result Walk BlockFault) → is_ok r ≡ true → (w : Walk) × (r ≡ Ok w)
was-ok (Ok w) is = (w, refl)
was-ok (Err x) is = absurd (cc is)

pub under : (S : List ℕ) (es : List Edit) (n : ℕ) → may_stand S es n ≡ true → Under S es n
under S [] n is =
    let (w, read) = was-ok (read_blocks S n) is in
    record { bare = w; now = w; read_bare = read; read_now = read; end = refl; kin = refl; flags = refl; opening = refl; behind = refl; lie = λ d. refl; records = refl }
under S (e ∷ es) n is =
    let (may, rest) = and_parts (may_lie S n e) (may_stand S es n) is in
    let u = under S es n rest in
    let on-field = lies (overlay S es) n u.now e u.read_now (u.lie e ∙ may) in
    let header = header_laid (overlay S es) n u.now e u.read_now on-field in
    record {
      bare = u.bare;
      now = record { records = records_after e.field u.now.records e.block (le (bytes_laid e.laid)); end = u.now.end };
      read_bare = u.read_bare;
      read_now = read_laid (overlay S es) n u.now e u.read_now on-field;
      end = u.end;
      kin = after_kin e.field u.now.records e.block (le (bytes_laid e.laid)) ∙ u.kin;
      flags = header.0 ∙ u.flags;
      opening = header.1 ∙ u.opening;
      behind = behind_laid (overlay S es) n u.now e u.read_now on-field ∙ u.behind;
      lie = λ d. lie_laid (overlay S es) n u.now e u.read_now on-field d ∙ u.lie d;
      records = ap (λ rs. records_after e.field rs e.block (le (bytes_laid e.laid))) u.records;
    }

-- a block is found among more
still-there : (rs ts : List Record) (k : ℕ) (r : Record) → slice_get rs k ≡ Some r → slice_get (rs ++ ts) k ≡ Some r
still-there [] ts k r is = absurd (cc is)
still-there (x ∷ rs) ts zero r is = is
still-there (x ∷ rs) ts (suc k) r is = still-there rs ts k r is

lies-so : (e : Edit) (p : Result Place ℕ) (q : Place) → p ≡ Ok q → e.place ≡ q.at → length (bytes_laid e.laid) ≡ q.size → q.allowed (le (bytes_laid e.laid)) ≡ true → lies_on e p ≡ true
lies-so e p q is at size good =
    subst (λ r. lies_on e r ≡ true) (sym is)
    (and_from (eqb e.place q.at) _ (eq-eqb e.place q.at at) (and_from (eqb (length (bytes_laid e.laid)) q.size) _ (eq-eqb (length (bytes_laid e.laid)) q.size size) good))

-- an edit that lies on a field may be laid, also over bytes that hold more blocks behind
may-lie : (O : List ℕ) (rs ts : List Record) (e : Edit) (r : Record) (p : Place) → slice_get rs e.block ≡ Some r → field_place (flags_of O) (take e.block rs) O r e.field ≡ Ok p
    → e.place ≡ p.at → length (bytes_laid e.laid) ≡ p.size → p.allowed (le (bytes_laid e.laid)) ≡ true
    → option_map_or (λ r. lies_on e (field_place (flags_of O) (take e.block (rs ++ ts)) O r e.field)) (slice_get (rs ++ ts) e.block) false ≡ true
may-lie O rs ts e r p found placed at size good =
    let within = slice_get_within rs e.block r found in
    rw (still-there rs ts e.block r found, take-append-le e.block rs ts (omega (arith, within)))
    (lies-so e (field_place (flags_of O) (take e.block rs) O r e.field) p placed at size good)

lies-further : (O : List ℕ) (n : ℕ) (w : Walk) (e : Edit) → read_blocks O n ≡ Ok w → Lies O w e → may_lie O (n + 1) e ≡ true
lies-further O n w e read l =
    let t = record_at (flags_of O) O w.end in
    let grown : (walk O (n + 1)).records ≡ w.records ++ t ∷ [] = ap (λ (v : Walk). v.records) (walk_further O n) ∙ ap (λ v. and_at v.records O v.end) (sym (read_walked O n w read)) in
    rw (grown) (may-lie O w.records (t ∷ []) e l.block l.place l.found l.placed l.at l.size l.good)

-- edits that may stand still may once one block more is taken
pub stand_further : (S : List ℕ) (es : List Edit) (n : ℕ) (w : Walk) (x : ℕ) → read_blocks S n ≡ Ok w → block_at (flags_of S) w.records S w.end ≡ Ok x → may_stand S es n ≡ true → may_stand S es (n + 1) ≡ true
stand_further S [] n w x read next is = ap is_ok (read_further S n w x read next)
stand_further S (e ∷ es) n w x read next is =
    let (may, rest) = and_parts (may_lie S n e) (may_stand S es n) is in
    and_from (may_lie S (n + 1) e) _ (lies-further S n w e read (lies S n w e read may)) (stand_further S es n w x read next rest)

pub same-walk : (w v : Walk) → ◌≡◌ {A = Result Walk BlockFault} (Ok w) (Ok v) → w ≡ v
same-walk w v is = cc is

-- one edit less: the blocks tell what is then at the places
pub read_undone : (S : List ℕ) (e : Edit) (es : List Edit) (n : ℕ) (w : Walk) → may_stand S (e ∷ es) n ≡ true → read_blocks (overlay S (e ∷ es)) n ≡ Ok w
    → read_blocks (overlay S es) n ≡ Ok (record { records = records_after e.field w.records e.block (le (part (overlay S es) e.place 4)); end = w.end })
read_undone S e es n w is read =
    let (may, rest) = and_parts (may_lie S n e) (may_stand S es n) is in
    let O = overlay S es in
    let u = under S es n rest in
    let on-field = lies O n u.now e u.read_now (u.lie e ∙ may) in
    let is-w = same-walk w _ (sym read ∙ read_laid O n u.now e u.read_now on-field) in
    let back = told_back O n u.now e u.read_now on-field in
    let records : records_after e.field w.records e.block (le (part O e.place 4)) ≡ u.now.records = ap (λ v. records_after e.field v.records e.block (le (part O e.place 4))) is-w ∙ back in
    u.read_now ∙ ap (λ rs. Ok (record { records = rs; end = u.now.end })) (sym records) ∙ ap (λ v. Ok (record { records = records_after e.field w.records e.block (le (part O e.place 4)); end = v.end })) (sym is-w)

-- one edit more, on a field of a taken block
pub stand_laid : (S : List ℕ) (e : Edit) (es : List Edit) (n : ℕ) (w : Walk) (r : Record) (p : Place) → may_stand S es n ≡ true → read_blocks (overlay S es) n ≡ Ok w
    → slice_get w.records e.block ≡ Some r → field_place (flags_of (overlay S es)) (take e.block w.records) (overlay S es) r e.field ≡ Ok p
    → e.place ≡ p.at → length (bytes_laid e.laid) ≡ p.size → p.allowed (le (bytes_laid e.laid)) ≡ true
    → (may_stand S (e ∷ es) n ≡ true) × (read_blocks (overlay S (e ∷ es)) n ≡ Ok (record { records = records_after e.field w.records e.block (le (bytes_laid e.laid)); end = w.end }))
stand_laid S e es n w r p is read found placed at size good =
    let O = overlay S es in
    let l : Lies O w e = record { block = r; found = found; place = p; placed = placed; at = at; size = size; good = good } in
    let may = may-lie O w.records [] e r p found placed at size good in
    let all = append-nil w.records in
    let may-w : option_map_or (λ r. lies_on e (field_place (flags_of O) (take e.block w.records) O r e.field)) (slice_get w.records e.block) false ≡ true =
    subst (λ rs. option_map_or (λ r. lies_on e (field_place (flags_of O) (take e.block rs) O r e.field)) (slice_get rs e.block) false ≡ true) all may in
    let may-n : may_lie O n e ≡ true = subst (λ v. option_map_or (λ r. lies_on e (field_place (flags_of O) (take e.block v.records) O r e.field)) (slice_get v.records e.block) false ≡ true) (read_walked O n w read) may-w in
    (and_from (may_lie S n e) _ (sym ((under S es n is).lie e) ∙ may-n) is, read_laid O n w e read l)
