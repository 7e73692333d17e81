-- Worked examples of edits. Assumes nothing.
use Rattle.std.specs.Prelude.{◌≡◌, ℕ, true, [], ◌∷◌, replicate, Some, Ok, Err, from_bits}
use Rattle.std.specs.Float.{binary32, binary64}
use Rattle.awd_fault.specs.Faults.{of_call}
use Rattle.awd_source.specs.Bytes.{part}
use Rattle.awd_roster.specs.Table.{with_parent}
use Rattle.awd_contents.specs.declared.contents.Cell.{Cell}
use Rattle.awd_contents.specs.declared.contents.Cell.TheVariants.{Single, Double}
use Rattle.awd_edits.specs.declared.edit.Edit.{Edit}
use Rattle.awd_edits.specs.declared.edit.Field.TheVariants.{Parent}
use Rattle.awd_edits.specs.declared.edit.Laid.TheVariants.{Four}
use Rattle.awd_session.specs.State.{State, fresh, bytes_of, record_answer, path_answer, material_answer, cell_answer}
use Rattle.awd_session.specs.Edits.{Asked, reparenting, dressing, nudging, edit_answer, after_edit, undo_answer, after_undo}
use Rattle.awd_examples.specs.Layout.{word, kitchen, lit}
use Rattle.awd_examples.specs.Documents.{after, mesh_record}

-- a call about a block is accepted, or refused with a cause
abbrev pub edits : ℕ → Asked Edit → Type 0
edits number a = edit_answer number a ≡ Ok tt

abbrev pub fails : ℕ → Asked Edit → ℕ → Type 0
fails number a cause = edit_answer number a ≡ Err (of_call cause 0 number)

-- the kitchen with its three blocks taken, and the document with a mesh that has materials
abbrev pub all : State
all = after kitchen 3

abbrev pub lamps : State
lamps = after (lit 2) 3

-- the kitchen's mesh under the root
abbrev pub rooted : State
rooted = after_edit all (reparenting all 2 0)

-- a material taken away
abbrev pub bare : State
bare = after_edit lamps (dressing lamps 2 1 0)

-- floats: 1.0 and 2.0 by their bits, and one that is no number
abbrev pub one_single : Cell
one_single = Single (from_bits binary32 1065353216)

abbrev pub two_single : Cell
two_single = Single (from_bits binary32 1073741824)

abbrev pub no_single : Cell
no_single = Single (from_bits binary32 2143289344)

abbrev pub one_double : Cell
one_double = Double (from_bits binary64 4607182418800017408)

abbrev pub no_double : Cell
no_double = Double (from_bits binary64 9221120237041090560)

-- a cell of the mesh that has materials made 1.0
abbrev pub bright : State
bright = after_edit lamps (nudging lamps 2 3 one_double)

-- the container's first cell made 1.0, and then 2.0
abbrev pub once : State
once = after_edit all (nudging all 1 0 one_single)

abbrev pub twice : State
twice = after_edit once (nudging once 1 0 two_single)

-- the kitchen with so many edits, each of which lays the root's address over the mesh's parent
abbrev pub worn : ℕ → State
worn n =
    record { source = kitchen; opened = true; taken = 3; edits = replicate n (record { block = 2; field = Parent; place = 108; laid = Four (word 0) }) }

pub record Edits : Type 0 where
  -- a primitive is no parent, nor is a block its own; the root is one
  pub reparent_1 : fails 2 (reparenting all 2 1) 14
  pub reparent_3 : fails 2 (reparenting all 2 3) 14
  pub reparent_2 : edits 2 (reparenting all 2 2)
  pub reparent_0 : edits 2 (reparenting all 2 0)
  pub bytes_108 : part (bytes_of rooted) 108 4 ≡ word 0
  pub source_108 : part rooted.source 108 4 ≡ word 2
  pub told_0 : record_answer rooted 2 ≡ Some (with_parent mesh_record (Some 0))
  pub path_0 : path_answer rooted 2 ≡ Some 0
  -- and undone, all is as before
  pub undone : undo_answer rooted ≡ Ok tt
  pub as_before : after_undo rooted ≡ all
  pub bytes_undone : part (bytes_of (after_undo rooted)) 108 4 ≡ word 2
  pub path_1 : path_answer (after_undo rooted) 2 ≡ Some 1
  pub nothing_to_undo : undo_answer all ≡ Err (of_call 25 0 0)
  pub undo_not_open : undo_answer (fresh kitchen) ≡ Err (of_call 8 0 0)
  -- no such field, no such block, no open session
  pub reparent_carried : fails 0 (reparenting all 0 0) 19
  pub reparent_no_block : fails 3 (reparenting all 3 0) 18
  pub reparent_not_open : fails 2 (reparenting (fresh kitchen) 2 0) 8
  pub after_refusal : after_edit all (reparenting all 2 1) ≡ all
  -- materials
  pub dress_bare : fails 2 (dressing all 2 0 0) 21
  pub dress_container : fails 1 (dressing all 1 0 0) 19
  pub dress_0 : edits 2 (dressing lamps 2 1 0)
  pub dress_2 : edits 2 (dressing lamps 2 1 2)
  pub dress_1 : fails 2 (dressing lamps 2 1 1) 14
  pub dress_behind : fails 2 (dressing lamps 2 2 0) 21
  pub material_0 : material_answer bare 2 1 ≡ Some 0
  pub first_material : material_answer bare 2 0 ≡ Some 2
  pub material_2 : material_answer (after_undo bare) 2 1 ≡ Some 2
  -- cells, of 8 bytes
  pub nudge : edits 2 (nudging lamps 2 3 one_double)
  pub nudged : cell_answer bright 2 3 ≡ Some (2, from_bits binary64 4607182418800017408)
  pub nudge_narrow : fails 2 (nudging lamps 2 3 one_single) 23
  pub nudge_12 : fails 2 (nudging lamps 2 12 one_double) 22
  pub nudge_no_number : fails 2 (nudging lamps 2 3 no_double) 24
  pub nudge_narrow_no_number : fails 2 (nudging lamps 2 3 no_single) 23
  pub nudge_carried : fails 0 (nudging lamps 0 3 one_double) 19
  -- and of 4: a second edit of a cell undone, the first is there again
  pub nudge_wide : fails 1 (nudging all 1 0 one_double) 23
  pub nudge_again : edits 1 (nudging once 1 0 two_single)
  pub cell_twice : cell_answer twice 1 0 ≡ Some (1, from_bits binary32 1073741824)
  pub cell_once : cell_answer (after_undo twice) 1 0 ≡ Some (1, from_bits binary32 1065353216)
  pub bytes_once : part (bytes_of (after_undo twice)) 38 4 ≡ 0 ∷ 0 ∷ 128 ∷ 63 ∷ []
  pub back_to_once : after_undo twice ≡ once
  -- 256 edits may stand
  pub edit_256 : edits 2 (reparenting (worn 255) 2 2)
  pub edit_257 : fails 2 (reparenting (worn 256) 2 2) 20
  pub refused_first : fails 2 (reparenting (worn 256) 2 1) 14
  pub undo_256 : after_undo (worn 256) ≡ worn 255
