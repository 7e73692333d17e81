-- Addresses: an address is the ID of an earlier block. Assumes nothing.
use Rattle.std.specs.Prelude.{ℕ, Bool, true, false, cond, ◌&&◌, List, [], ◌∷◌, map, ◌==◌}
use Rattle.std.specs.List.{list_any}
use Rattle.awd_roster.specs.declared.kind.BlockKind.TheVariants as kind
use Rattle.awd_roster.specs.declared.record.Record.{Record}
use Rattle.awd_roster.specs.declared.record.Target.{Target}
use Rattle.awd_roster.specs.declared.record.Target.TheVariants.{Parent, Geometry, Material, Light}
use Rattle.awd_roster.specs.Kinds.{kind_number}

-- the numbers of the kinds of block that an address may name: as a parent a container, a mesh or a light, as geometry one that is read or a carried one
abbrev pub kinds_of : Target → List ℕ
kinds_of Parent = map kind_number (kind.Container ∷ kind.Mesh ∷ kind.Light ∷ [])
kinds_of Geometry = map kind_number (kind.Geometry ∷ kind.Primitive ∷ [])
kinds_of Material = map kind_number (kind.Material ∷ [])
kinds_of Light = map kind_number (kind.Light ∷ [])

-- address 0, which names no block, may be a parent (the root) or a material (none)
abbrev pub may_be_none : Target → Bool
may_be_none Parent = true
may_be_none Geometry = false
may_be_none Material = true
may_be_none Light = false

abbrev pub has : List ℕ → ℕ → Bool
has xs n = list_any (λ x. n == x) xs

-- a block has an ID, namespace 0 and one of the kinds that may be named
abbrev pub fits : Target → ℕ → Record → Bool
fits target id r = r.id == id && (r.namespace == 0 && has (kinds_of target) r.kind)

-- one of some blocks does
abbrev pub named : Target → ℕ → List Record → Bool
named target id rs = list_any (fits target id) rs

-- an address is lawful after some blocks
abbrev pub lawful_address : Target → List Record → ℕ → Bool
lawful_address target before address = cond (address == 0) (may_be_none target) (named target address before)
