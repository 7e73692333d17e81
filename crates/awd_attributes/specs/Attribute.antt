-- What an attribute says that is handed out. Assumes nothing.
use Rattle.std.specs.Prelude.{◌≡◌, ℕ, ◌+◌, cond, List, Some, ◌==◌}
use Rattle.std.specs.Borrow.{Bor}
use Rattle.awd_source.specs.Bytes.{VeryPart, le, part}
use Rattle.awd_attributes.specs.declared.attribute.Attribute.{Attribute}
use Rattle.awd_attributes.specs.declared.attribute.Value.{Value}
use Rattle.awd_attributes.specs.declared.attribute.Value.TheVariants.{Text, Raw, Number}
use Rattle.awd_attributes.specs.Fields.{key_at, key_size, type_at, value_at, value_size}
use Rattle.awd_value.specs.Types.{type_number}

-- the number of a value's case: text, raw bytes or a number's bytes
abbrev pub case_number : Value → ℕ
case_number (Text b) = 1
case_number (Raw b) = 2
case_number (Number b) = 3

-- the part that a value is
abbrev pub value_part : Value → Bor (List ℕ)
value_part (Text b) = b
value_part (Raw b) = b
value_part (Number b) = b

-- the case of a value of a type: 31 is text, 32 raw bytes, any other a number's
abbrev pub case_of : ℕ → ℕ
case_of t = cond (t == 31) 1 (cond (t == 32) 2 3)

-- an attribute is the one from a place of s to another: its numbers, and the very parts of s that its key and its value are
pub record Is (s : Bor (List ℕ)) (at e : ℕ) (a : Attribute) : Type 0 where
  pub namespace : a.namespace ≡ le (part s.now at 1)
  pub key : VeryPart s (key_at at) (key_size s.now at) (Some a.key)
  pub type : type_number a.value_type ≡ le (part s.now (type_at s.now at) 1)
  pub case : case_number a.value ≡ case_of (type_number a.value_type)
  pub value : VeryPart s (value_at s.now at) (value_size s.now at) (Some (value_part a.value))
  pub ends : e ≡ value_at s.now at + value_size s.now at
