-- Places chained by their slots, as their type keeps them; no public contract names this. Assumes nothing.
use Rattle.std.specs.Prelude.{◌≡◌, ◌<◌, ℕ, List, length, map, slice_get, slice_index_or, Some, None, Option}
use Rattle.awd_places.specs.declared.places.Node.{Node}
use Rattle.awd_places.specs.Numbers.{slot_of, last_in}

-- the places of nodes
abbrev pub places_of : List Node → List ℕ
places_of nodes = map (λ node. node.place) nodes

-- each slot's head is its last place, and behind each place is the last before it in its slot
pub record Chained (nodes : List Node) (heads : List (Option ℕ)) : Type 0 where
  pub slots : length heads ≡ 4096
  pub head_is_last : (slot : ℕ) → slot < 4096 → slice_index_or heads slot None ≡ last_in slot (places_of nodes) (length nodes)
  pub older_is_last : (n : ℕ) (node : Node) → slice_get nodes n ≡ Some node
      → node.older ≡ last_in (slot_of node.place) (places_of nodes) n
