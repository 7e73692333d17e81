-- A group of entries that a shape describes, as the code reads it.
use Rattle.std.proofs.Common.{◌≡◌, ℕ, ◌+◌, List, Ok, Err, Result, refl}
use Rattle.awd_block_fault.specs.declared.BlockFault.{BlockFault}
use Rattle.awd_block_fault.specs.declared.BlockFault.TheVariants.{Field, Entry}
use Rattle.awd_block_fault.specs.declared.EntryFault.{EntryFault}
use Rattle.awd_block_fault.specs.Faults.{on, turned}
use Rattle.awd_source.specs.Fields.{number_at}
use Rattle.awd_format.specs.Runs.{counted_at}
use Rattle.awd_format.specs.Shapes.{Shape, read_of, entry_of, text}
use Rattle.awd_attributes.specs.Attributes.{properties, user_list}
use Rattle.awd_bodies.specs.Groups.{group, group_at}

on_same : {F : Type 0} (turn : F → BlockFault) (r : Result ℕ F) (f g : ℕ → Result ℕ BlockFault) → ((e : ℕ) → f e ≡ g e) → on turn r f ≡ on turn r g
on_same turn (Ok e) f g same = same e
on_same turn (Err x) f g same = refl

on-turned : (r : Result ℕ EntryFault) (f : ℕ → Result ℕ BlockFault) → on Entry r f ≡ on (λ x. x) (turned Entry r) f
on-turned (Ok e) f = refl
on-turned (Err x) f = refl

pub group-read : (entry : ℕ → Shape) (B : List ℕ) (at end : ℕ) → group_at (λ i. entry_of (entry i)) B at end ≡ read_of (group entry) B at end
group-read entry B at end =
    on_same (λ x. x) (read_of text B at end) _ _ (λ p.
    on_same Field (number_at B p end 2) _ _ (λ count.
    on_same (λ x. x) (read_of properties B (p + 2) end) _ _ (λ q.
    on-turned (counted_at (λ i. entry_of (entry i)) B end count 0 q) (λ e. read_of user_list B e end))))
