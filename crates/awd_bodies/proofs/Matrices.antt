-- A row of numbers, one cell at a time.
use Rattle.std.proofs.Common.{◌≡◌, ℕ, zero, suc, ◌+◌, ◌-◌, ◌*◌, ◌<◌, ◌≤◌, leb, List, Ok, Result, refl, sym, ap, ◌∙◌, add-zero, suc-mul, arith}
use Rattle.std.proofs.lemmas.Bool.{le-leb}
use Rattle.awd_source.specs.Bytes.{le, part}
use Rattle.awd_block_fault.specs.declared.BlockFault.TheVariants.{Field}
use Rattle.awd_block_fault.specs.declared.FieldFault.{FieldFault}
use Rattle.awd_block_fault.specs.Faults.{short, on}
use Rattle.awd_source.specs.Fields.{bytes_at}
use Rattle.awd_format.specs.Shapes.{read_of}
use Rattle.awd_format.proofs.Locality.{fit-alike}
use Rattle.awd_bodies.specs.Fields.{numbers}

module _ (B : List ℕ) (end width : ℕ) where
  first_cell : (n p : ℕ) → read_of (numbers (suc n) width) B p end ≡ on Field (bytes_at p end width) (λ e. read_of (numbers n width) B e end)
  unfolding numbers
  first_cell n p =
      fit-alike (leb (p + width) end) (le (part B p width)) (p + width) (short p) (λ v. read_of (numbers n width) B (p + width) end) (λ e. read_of (numbers n width) B e end) (λ _. refl)

  pub cell-step : (n i p : ℕ) → i < n → (r : Result ℕ FieldFault) → r ≡ bytes_at p end width → read_of (numbers (n - i) width) B p end ≡ on Field r (λ e. read_of (numbers (n - (i + 1)) width) B e end)
  cell-step n i p h r is =
      let s : n - i ≡ suc (n - (i + 1)) = omega arith in
      rw (s, is) (first_cell (n - (i + 1)) p)

  pub cells-all : (n i p : ℕ) → n ≤ i → p ≤ end → Ok p ≡ read_of (numbers (n - i) width) B p end
  unfolding numbers
  cells-all n i p h fits =
      let z : n - i ≡ 0 = omega arith in
      rw (z, add-zero, le-leb p end fits) refl

  -- where all of them fit, the place behind them
  pub cells-fit : (n p m : ℕ) → m ≡ n * width → p + m ≤ end → Ok (p + m) ≡ read_of (numbers n width) B p end
  unfolding numbers
  cells-fit zero p m is fits =
      let z : p + m ≡ p = omega (arith, is) in
      rw (z, add-zero, le-leb p end (omega (arith, is, fits))) refl
  cells-fit (suc n) p m is fits =
      let all : m ≡ n * width + width = is ∙ suc-mul n width in
      let fit : p + width ≤ end = omega (arith, all, fits) in
      let rest = cells-fit n (p + width) (n * width) refl (omega (arith, all, fits)) in
      let same : p + m ≡ p + width + n * width = omega (arith, all) in
      let here : Ok (p + width) ≡ bytes_at p end width = rw (le-leb (p + width) end fit) refl in
      rw same (rest ∙ sym (first_cell n p ∙ ap (λ r. on Field r (λ e. read_of (numbers n width) B e end)) (sym here)))
