-- The laws of all shapes, as one record. Assumes nothing.
use Rattle.std.specs.Prelude.{◌≡◌, ℕ, ◌-◌, ◌≤◌, List, [], length, IfOk, IfErr, Err}
use Rattle.awd_source.specs.Bytes.{part}
use Rattle.awd_block_fault.specs.declared.BlockFault.{BlockFault}
use Rattle.awd_block_fault.specs.Faults.{field_of}
use Rattle.awd_format.specs.Sets.{NoneBegins, Reads, Members, in_row}
use Rattle.awd_format.specs.Shapes.{Shape, SetOf, read_of, Filled, TestsInside}
use Rattle.awd_format.specs.FirstFaults.{FaultOf}

pub record ShapeLaws : Type 0 where
  -- reading succeeds exactly on the members that stand there and fit, and tells the place behind
  pub exact : (L : Shape) → Filled L → (B : List ℕ) (at end : ℕ) → at ≤ end → end ≤ length B → Reads (SetOf L) B at end (read_of L B at end)
  -- where it refuses, it tells the first fault
  pub first : (L : Shape) → Filled L → (B : List ℕ) (at end : ℕ) → at ≤ end → end ≤ length B → IfErr (read_of L B at end) (λ x. FaultOf L B at end x)
  -- and what is the first fault, it tells: there is one at most, and none where reading succeeds
  pub only : (L : Shape) → Filled L → (B : List ℕ) (at end : ℕ) → at ≤ end → end ≤ length B → (x : BlockFault) → FaultOf L B at end x → read_of L B at end ≡ Err x
  -- no member begins another
  pub prefix_free : (L : Shape) → NoneBegins (SetOf L)
  -- reading only goes forward, and never leaves its holder
  pub forward : (L : Shape) (B : List ℕ) (at end : ℕ) → at ≤ end → IfOk (read_of L B at end) (λ e. (at ≤ e) × (e ≤ end))
  -- nor does a fault lie before the place that is read from, or behind the holder
  pub fault_inside : (L : Shape) → TestsInside L → (B : List ℕ) (at end : ℕ) → at ≤ end
      → IfErr (read_of L B at end) (λ x. (at ≤ (field_of x).place) × ((field_of x).place ≤ end))
  -- reading depends on no byte outside from at to end
  pub local : (L : Shape) (B C : List ℕ) (at end : ℕ) → at ≤ end → end ≤ length B → end ≤ length C
      → part B at (end - at) ≡ part C at (end - at) → read_of L B at end ≡ read_of L C at end
  -- a run of entries that are not empty is cut in exactly one way
  pub one_cutting : (entry : ℕ → Shape) → ((i : ℕ) → SetOf (entry i) [] → ⊥) → (i : ℕ) (ms ns : List (List ℕ))
      → Members (λ i. SetOf (entry i)) i ms → Members (λ i. SetOf (entry i)) i ns → in_row ms ≡ in_row ns → ms ≡ ns
