-- An edit behind the header leaves what opening answers.
use Rattle.std.proofs.Common.{◌≡◌, ℕ, ◌<◌, ◌≤◌, List, get_or, refl, ap, inl, arith}
use Rattle.awd_source.specs.Bytes.{le}
use Rattle.awd_header.specs.Header.{opening, flags_of}
use Rattle.awd_edits.specs.Overlay.{lay}
use Rattle.awd_edits.proofs.Lays.{length_lay, lay_outside, part_away}

module _ (B : List ℕ) (p : ℕ) (vs : List ℕ) (behind : 12 ≤ p) where
  byte-kept : (i : ℕ) → i < 12 → get_or (lay B p vs) i 0 ≡ get_or B i 0
  byte-kept i h = lay_outside B p vs i (inl (omega (arith, h, behind)))

  pub flags_laid : flags_of (lay B p vs) ≡ flags_of B
  flags_laid = ap le (part_away B p vs 5 2 (inl (omega (arith, behind))))

  pub opening_laid : opening (lay B p vs) ≡ opening B
  opening_laid =
      rw (
        length_lay B p vs,
        byte-kept 0 (omega arith),
        byte-kept 1 (omega arith),
        byte-kept 2 (omega arith),
        byte-kept 3 (omega arith),
        byte-kept 4 (omega arith),
        byte-kept 7 (omega arith),
        flags_laid,
        part_away B p vs 8 4 (inl (omega (arith, behind))),
      ) refl
