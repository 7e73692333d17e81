-- Skeletons, with matrix cells of a width. Assumes nothing.
use Rattle.std.specs.Prelude.{ℕ, Bool, ◌||◌, ◌==◌, nat_eq, nat_lt}
use Rattle.awd_fault.specs.declared.Cause.TheVariants.{ValueNotAllowed}
use Rattle.awd_format.specs.Shapes.{Shape, number, also, text}
use Rattle.awd_bodies.specs.Fields.{matrix, lists}
use Rattle.awd_bodies.specs.Groups.{group}

-- the parent that a joint of an ID may have: 65,535 for none, or a joint before it
abbrev pub joint_parent : ℕ → ℕ → Bool
joint_parent id parent = parent == 65535 || nat_lt parent id

-- what a joint has behind its numbers: a name, a matrix and the lists
abbrev pub joint_rest : ℕ → Shape
joint_rest width = also text (also (matrix width) lists)

-- the joint of an index: its ID (2), which is the index, its parent (2), and the rest
abbrev pub joint : ℕ → ℕ → Shape
joint width i =
    number 2 (λ id. nat_eq id i) ValueNotAllowed (λ id. number 2 (joint_parent id) ValueNotAllowed (λ parent. joint_rest width))

-- a skeleton: a group of joints
abbrev pub skeleton : ℕ → Shape
skeleton width = group (joint width)
