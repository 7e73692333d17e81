-- Addresses and joints are not empty, and no run of a body has an empty entry.
use Rattle.std.specs.Prelude.{ℕ, zero, suc, List, []}
use Rattle.awd_format.specs.Shapes.{Shape, SetOf, Filled}
use Rattle.awd_format.proofs.SetLaws.{filled-then}
use Rattle.awd_attributes.specs.Filled.{properties-filled, user-list-filled}
use Rattle.awd_roster.specs.declared.record.Record.{Record}
use Rattle.awd_roster.specs.declared.record.Target.{Target}
use Rattle.awd_roster.specs.declared.record.Target.TheVariants.{Material, Light}
use Rattle.awd_bodies.specs.Fields.{address_to, addresses, numbers, lists}
use Rattle.awd_bodies.specs.Scene.{scene_head, container, mesh, light, picker}
use Rattle.awd_bodies.specs.Groups.{group, geometry}
use Rattle.awd_bodies.specs.Skeletons.{joint, skeleton}
use Rattle.awd_geometry.specs.SubGeometries.{sub_geometry}
use Rattle.awd_geometry.specs.Filled.{sub-geometry-filled}

pub address-filled : (target : Target) (before : List Record) (i : ℕ) → (SetOf (address_to target before) [] → ⊥) × Filled (address_to target before)
address-filled target before i = (filled-then 3 _, λ address. tt)

addresses-filled : (target : Target) (before : List Record) → Filled (addresses target before)
addresses-filled target before = λ count. address-filled target before

numbers-filled : (n width : ℕ) → Filled (numbers n width)
unfolding numbers
numbers-filled zero width = tt
numbers-filled (suc n) width = λ v. numbers-filled n width

lists_filled : Filled lists
lists_filled = (properties-filled.1, user-list-filled.1)

pub joint-filled : (width i : ℕ) → (SetOf (joint width i) [] → ⊥) × Filled (joint width i)
joint-filled width i = (filled-then 1 _, λ id parent. (λ n. tt, (numbers-filled 12 width, lists_filled)))

head-filled : (before : List Record) (width : ℕ) → Filled (scene_head before width)
head-filled before width = (λ address. tt, (numbers-filled 12 width, λ n. tt))

pub container-filled : (before : List Record) (width : ℕ) → Filled (container before width)
container-filled before width = (head-filled before width, lists_filled)

pub mesh-filled : (before : List Record) (width : ℕ) → Filled (mesh before width)
mesh-filled before width = (head-filled before width, (λ address. tt, (addresses-filled Material before, lists_filled)))

pub light-filled : (before : List Record) (width : ℕ) → Filled (light before width)
light-filled before width = (head-filled before width, λ type. lists_filled)

pub picker-filled : (before : List Record) → Filled (picker before)
picker-filled before = (λ n. tt, (addresses-filled Light before, user-list-filled.1))

group-filled : (entry : ℕ → Shape) → ((i : ℕ) → (SetOf (entry i) [] → ⊥) × Filled (entry i)) → Filled (group entry)
group-filled entry filled = (λ n. tt, λ count. (properties-filled.1, (filled, user-list-filled.1)))

pub geometry-filled : (width : ℕ) → Filled (geometry width)
geometry-filled width = group-filled (sub_geometry width) (sub-geometry-filled width)

pub skeleton-filled : (width : ℕ) → Filled (skeleton width)
skeleton-filled width = group-filled (joint width) (joint-filled width)
