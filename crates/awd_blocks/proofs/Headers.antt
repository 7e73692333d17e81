-- What a header that stands at a place says is what the bytes say there.
use Rattle.std.proofs.Common.{◌≡◌, ℕ, ◌+◌, ◌-◌, ◌≤◌, List, length, take, drop, sym, ap, ◌∙◌, arith, length-append, take-take, drop-drop}
use Rattle.std.proofs.lemmas.List.{drop-take}
use Rattle.awd_source.specs.Bytes.{le, part}
use Rattle.awd_format.specs.Sets.{Stands, Wide, Then}
use Rattle.awd_format.specs.Shapes.{SetOf}
use Rattle.awd_header.specs.Widths.{widths_of}
use Rattle.awd_roster.specs.declared.record.Record.{Record}
use Rattle.awd_blocks.specs.Heads.{namespace_at, kind_at, flags_at, size_at, block_header}
use Rattle.awd_blocks.specs.Blocks.{body_of, body_shape}

-- so many bytes, and a rest that is always of one length
sized-then : (n k : ℕ) (Q : List ℕ → List ℕ → Type 0) → ((m t : List ℕ) → Q m t → length t ≡ k) → (bs : List ℕ) → Then (Wide n) Q bs → length bs ≡ n + k
sized-then n k Q size bs (m, t, is, p, q) = omega (arith, ap length is, length-append m t, p, size m t q)

-- a header has 11 bytes
pub header-length : (before : List Record) (head : List ℕ) → SetOf (block_header before) head → length head ≡ 11
header-length before =
    sized-then 4 7 _ (λ _ t p. sized-then 1 6 _ (λ _ u q. sized-then 1 5 _ (λ _ v r. sized-then 1 4 _ (λ _ w s. sized-then 4 0 _ (λ _ x y. y.1) w s.1) v r.1) u q.1) t p.1)

-- bytes inside what stands at a place are those of the whole
pub part-standing : (B : List ℕ) (at end : ℕ) (m : List ℕ) → Stands B at end m → (i n : ℕ) → i + n ≤ length m → part m i n ≡ part B (at + i) n
part-standing B at end m s i n h =
    let k : length m ≡ i + (length m - i) = omega arith in
    let l : n ≤ length m - i = omega arith in
    ap (λ x. part x i n) (sym s.is) ∙ ap (λ j. take n (drop i (take j (drop at B)))) k ∙ ap (take n) (drop-take i (length m - i) (drop at B))
    ∙ take-take n (length m - i) (drop i (drop at B)) l ∙ ap (take n) (drop-drop i at B)

module _ (B : List ℕ) (at end : ℕ) (head : List ℕ) (s : Stands B at end head) (l : length head ≡ 11) where
  namespace_same : namespace_at head 0 ≡ namespace_at B at
  namespace_same = ap le (part-standing B at end head s 4 1 (omega arith))

  kind_same : kind_at head 0 ≡ kind_at B at
  kind_same = ap le (part-standing B at end head s 5 1 (omega arith))

  flags_same : flags_at head 0 ≡ flags_at B at
  flags_same = ap le (part-standing B at end head s 6 1 (omega arith))

  pub size_same : size_at head 0 ≡ size_at B at
  size_same = ap le (part-standing B at end head s 7 4 (omega arith))

  pub shape_same : (flags : ℕ) (before : List Record) → body_shape flags before head 0 ≡ body_shape flags before B at
  shape_same flags before =
      ap (λ x. body_of before (widths_of flags x) (namespace_at head 0) (kind_at head 0) (size_at head 0)) flags_same
      ∙ ap (λ x. body_of before (widths_of flags (flags_at B at)) x (kind_at head 0) (size_at head 0)) namespace_same
      ∙ ap (λ x. body_of before (widths_of flags (flags_at B at)) (namespace_at B at) x (size_at head 0)) kind_same
      ∙ ap (λ x. body_of before (widths_of flags (flags_at B at)) (namespace_at B at) (kind_at B at) x) size_same
