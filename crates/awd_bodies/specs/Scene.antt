-- The bodies of blocks that make up a scene, after some blocks and with matrix cells of a width. Assumes nothing.
use Rattle.std.specs.Prelude.{ℕ, Bool, ◌||◌, List, ◌==◌}
use Rattle.awd_fault.specs.declared.Cause.TheVariants.{ValueNotAllowed}
use Rattle.awd_format.specs.Shapes.{Shape, number, also, text}
use Rattle.awd_attributes.specs.Attributes.{user_list}
use Rattle.awd_roster.specs.declared.record.Record.{Record}
use Rattle.awd_roster.specs.declared.record.Target.TheVariants.{Parent, Geometry, Material, Light}
use Rattle.awd_bodies.specs.Fields.{address_to, addresses, matrix, lists}

-- a scene head: the parent's address, a matrix and a name
abbrev pub scene_head : List Record → ℕ → Shape
scene_head before width = also (address_to Parent before) (also (matrix width) text)

-- a container: a scene head and the lists
abbrev pub container : List Record → ℕ → Shape
container before width = also (scene_head before width) lists

-- a mesh instance: a scene head, the address of its geometry, those of its materials, and the lists
abbrev pub mesh : List Record → ℕ → Shape
mesh before width = also (scene_head before width) (also (address_to Geometry before) (also (addresses Material before) lists))

-- the types of light that there are
abbrev pub light_type : ℕ → Bool
light_type type = type == 1 || type == 2

-- a light: a scene head, a type (1) and the lists
abbrev pub light : List Record → ℕ → Shape
light before width = also (scene_head before width) (number 1 light_type ValueNotAllowed (λ type. lists))

-- a light picker: a name, the addresses of its lights and a user list
abbrev pub picker : List Record → Shape
picker before = also text (also (addresses Light before) user_list)
