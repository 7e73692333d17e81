-- Lists of blocks: bytes hold one of a length at most, a walk ends where it does, and a list is read exactly where it is held.
use Rattle.std.proofs.Common.{◌≡◌, ℕ, zero, suc, ◌+◌, ◌≤◌, List, [], ◌∷◌, ◌++◌, length, IfErr, Ok, sym, refl, ap, ◌∙◌, subst, add-zero, add-one, arith, length-append, append-nil, append_assoc}
use Rattle.std.proofs.lemmas.Result.{IfOk-at_ok}
use Rattle.awd_block_fault.specs.Faults.{on}
use Rattle.awd_format.specs.Sets.{Reads, in_row}
use Rattle.awd_format.proofs.Standing.{stands_one}
use Rattle.awd_format.proofs.RunLaws.{reads-member}
use Rattle.awd_header.specs.Header.{flags_of}
use Rattle.awd_roster.specs.declared.record.Record.{Record}
use Rattle.awd_blocks.specs.Heads.{size_at, body_at}
use Rattle.awd_blocks.specs.Blocks.{LawfulBlock, block_at, BlockFaultOf}
use Rattle.awd_blocks.specs.Records.{record_at}
use Rattle.awd_blocks.specs.Lists.{and_at, told_from, Follow, Holds, HoldsOne, Walk, walk_from, walk, read_from, read_blocks}
use Rattle.awd_blocks.proofs.Whole.{block_free, block-reads, block-first}
use Rattle.awd_block_fault.proofs.Passed.{on-ok}
use Rattle.awd_blocks.proofs.Next.{block-length, next_at, read-one, read-end}

module _ (B : List ℕ) where
  -- the first block of those read, and the others
  pub first-read : (n : ℕ) (before : List Record) (at : ℕ) (w : Walk) → read_from B (suc n) before at ≡ Ok w
      → (e : ℕ) × (next_at B before at ≡ Ok e) × (read_from B n (and_at before B at) e ≡ Ok w)
  first-read n before at w is = on-ok (λ x. x) (next_at B before at) (λ e. read_from B n (and_at before B at) e) w is

  -- those that are read are those that are walked over
  walked-from : (n : ℕ) (before : List Record) (at : ℕ) (w : Walk) → read_from B n before at ≡ Ok w → w ≡ walk_from B n before at
  walked-from zero before at w is = IfOk-at_ok (λ w. w ≡ walk_from B zero before at) is refl
  walked-from (suc n) before at w is =
      let (e, first, rest) = first-read n before at w is in
      walked-from n (and_at before B at) e w rest ∙ ap (walk_from B n (and_at before B at)) (read-end B before at e first)

  -- and they follow one another
  follows-from : (n : ℕ) (before : List Record) (at : ℕ) (w : Walk) → read_from B n before at ≡ Ok w
      → (ms : List (List ℕ)) × (length ms ≡ n) × Follow B at before ms
  follows-from zero before at w is = ([], refl, tt)
  follows-from (suc n) before at w is =
      let (e, first, rest) = first-read n before at w is in
      let (m, place, p, s) = read-one B before at e first in
      let (ms, many, f) = follows-from n (and_at before B at) e w rest in
      (m ∷ ms, ap suc many, (p, s, subst (λ x. Follow B x (and_at before B at) ms) place f))

  -- each tells something, and the last ends inside
  inside-from : (n : ℕ) (before : List Record) (at : ℕ) (w : Walk) → at ≤ length B → read_from B n before at ≡ Ok w
      → (at ≤ w.end) × (w.end ≤ length B) × (length w.records ≡ length before + n)
  inside-from zero before at w le is =
      IfOk-at_ok (λ w. (at ≤ w.end) × (w.end ≤ length B) × (length w.records ≡ length before + zero)) is (omega arith, le, omega arith)
  inside-from (suc n) before at w le is =
      let (e, first, rest) = first-read n before at w is in
      let (m, place, p, s) = read-one B before at e first in
      let (low, high, many) = inside-from n (and_at before B at) e w (omega (arith, s.fits)) rest in
      (omega arith, high, omega (arith, length-append before (record_at (flags_of B) B at ∷ [])))

  -- one block more, read behind all of them
  further-from : (n : ℕ) (before : List Record) (at : ℕ) (w : Walk) (e : ℕ) → read_from B n before at ≡ Ok w → next_at B w.records w.end ≡ Ok e
      → read_from B (suc n) before at ≡ Ok (record { records = and_at w.records B w.end; end = e })
  further-from zero before at w e is next =
      IfOk-at_ok (λ w. next_at B w.records w.end ≡ Ok e → read_from B 1 before at ≡ Ok (record { records = and_at w.records B w.end; end = e })) is
      (λ next. ap (λ r. on (λ x. x) r (λ e. Ok (record { records = and_at before B at; end = e }))) next)
      next
  further-from (suc n) before at w e is next =
      let (f, first, rest) = first-read n before at w is in
      ap (λ r. on (λ x. x) r (λ e. read_from B (suc n) (and_at before B at) e)) first ∙ further-from n (and_at before B at) f w e rest next

  -- one block more, walked over
  walk-from : (n : ℕ) (before : List Record) (at : ℕ) → walk_from B (suc n) before at
      ≡ record { records = and_at (walk_from B n before at).records B (walk_from B n before at).end; end = body_at (walk_from B n before at).end + size_at B (walk_from B n before at).end }
  walk-from zero before at = refl
  walk-from (suc n) before at = walk-from n (and_at before B at) (body_at at + size_at B at)

  -- where lawful blocks follow one another, they are read
  held-from : (ms : List (List ℕ)) (before : List Record) (at : ℕ) → Follow B at before ms → read_from B (length ms) before at ≡ Ok (walk_from B (length ms) before at)
  held-from [] before at f = refl
  held-from (m ∷ ms) before at (p, s, rest) =
      let le : at ≤ length B = omega (arith, s.fits) in
      let first : next_at B before at ≡ Ok (at + length m) =
      reads-member B at (length B) (LawfulBlock (flags_of B) before) (block_free (flags_of B) before) (next_at B before at) (block-reads (flags_of B) before B at le) m p s in
      ap (λ r. on (λ x. x) r (λ e. read_from B (length ms) (and_at before B at) e)) first ∙ held-from ms (and_at before B at) (at + length m) rest
      ∙ ap (λ e. Ok (walk_from B (length ms) (and_at before B at) e)) (sym (block-length (flags_of B) before B at (length B) m p s))

-- two lists of one length that stand at one place are one list
pub follow-one : (B : List ℕ) (at : ℕ) (before : List Record) (ms ns : List (List ℕ)) → length ms ≡ length ns → Follow B at before ms → Follow B at before ns → ms ≡ ns
follow-one B at before [] [] same p q = refl
follow-one B at before [] (n ∷ ns) same p q = absurd (omega arith)
follow-one B at before (m ∷ ms) [] same p q = absurd (omega arith)
follow-one B at before (m ∷ ms) (n ∷ ns) same p q =
    let one = stands_one (LawfulBlock (flags_of B) before) (block_free (flags_of B) before) B at (length B) m n p.0 q.0 p.1 q.1 in
    let rest = subst (λ x. Follow B (at + length x) (and_at before B at) ns) (sym one) q.2 in
    ap (λ x. x ∷ ms) one ∙ ap (λ xs. n ∷ xs) (follow-one B (at + length m) (and_at before B at) ms ns (omega arith) p.2 rest)

-- a walk ends where the blocks do
pub walk-end : (B : List ℕ) (at : ℕ) (before : List Record) (ms : List (List ℕ)) → Follow B at before ms → (walk_from B (length ms) before at).end ≡ at + length (in_row ms)
walk-end B at before [] p = sym (add-zero at)
walk-end B at before (m ∷ ms) p =
    let place = block-length (flags_of B) before B at (length B) m p.0 p.1 in
    ap (λ x. (walk_from B (length ms) (and_at before B at) x).end) place ∙ walk-end B (at + length m) (and_at before B at) ms p.2 ∙ omega (arith, length-append m (in_row ms))

pub read_walked : (B : List ℕ) (n : ℕ) (w : Walk) → read_blocks B n ≡ Ok w → w ≡ walk B n
read_walked B n w is = walked-from B n [] 12 w is

pub read_holds : (B : List ℕ) (n : ℕ) (w : Walk) → read_blocks B n ≡ Ok w → HoldsOne B n
read_holds B n w is =
    let (ms, many, held) = follows-from B n [] 12 w is in
    record { blocks = ms; many = many; held = held; only = λ ns same h. follow-one B 12 [] ns ms (same ∙ sym many) h held }

pub held_read : (B : List ℕ) (ms : List (List ℕ)) → Holds B ms → read_blocks B (length ms) ≡ Ok (walk B (length ms))
held_read B ms held = held-from B ms [] 12 held

pub read_inside : (B : List ℕ) (n : ℕ) (w : Walk) → 12 ≤ length B → read_blocks B n ≡ Ok w → (12 ≤ w.end) × (w.end ≤ length B) × (length w.records ≡ n)
read_inside B n w le is =
    let (low, high, many) = inside-from B n [] 12 w le is in
    (low, high, omega (arith, many))

pub read_further : (B : List ℕ) (n : ℕ) (w : Walk) (e : ℕ) → read_blocks B n ≡ Ok w → block_at (flags_of B) w.records B w.end ≡ Ok e
    → read_blocks B (n + 1) ≡ Ok (record { records = and_at w.records B w.end; end = e })
read_further B n w e is next = ap (read_blocks B) (add-one n) ∙ further-from B n [] 12 w e is next

pub walk_further : (B : List ℕ) (n : ℕ) → walk B (n + 1)
    ≡ record { records = and_at (walk B n).records B (walk B n).end; end = body_at (walk B n).end + size_at B (walk B n).end }
walk_further B n = ap (walk B) (add-one n) ∙ walk-from B n [] 12

-- the next block is read right
pub next_right : (B : List ℕ) (n : ℕ) (w : Walk) → 12 ≤ length B → read_blocks B n ≡ Ok w
    → Reads (LawfulBlock (flags_of B) w.records) B w.end (length B) (block_at (flags_of B) w.records B w.end)
    × IfErr (block_at (flags_of B) w.records B w.end) (λ x. BlockFaultOf (flags_of B) w.records B w.end x)
next_right B n w le is =
    let (low, high, many) = read_inside B n w le is in
    (block-reads (flags_of B) w.records B w.end high, block-first (flags_of B) w.records B w.end high)

pub walk-told : (B : List ℕ) (at : ℕ) (before : List Record) (ms : List (List ℕ)) → Follow B at before ms → (walk_from B (length ms) before at).records ≡ before ++ told_from B at ms
walk-told B at before [] p = sym (append-nil before)
walk-told B at before (m ∷ ms) p =
    let place = block-length (flags_of B) before B at (length B) m p.0 p.1 in
    ap (λ x. (walk_from B (length ms) (and_at before B at) x).records) place ∙ walk-told B (at + length m) (and_at before B at) ms p.2
    ∙ append_assoc before (record_at (flags_of B) B at ∷ []) (told_from B (at + length m) ms)
