-- What is read of a user attribute. Assumes nothing.
use Rattle.std.specs.Prelude.{◌≡◌, ℕ, ◌+◌, List}
use Rattle.awd_source.specs.Bytes.{le, part}
use Rattle.awd_value.specs.Types.{type_number}
use Rattle.awd_attributes.specs.declared.kinds.UserFields.{UserFields}
use Rattle.awd_attributes.specs.Fields.{type_at, value_at, value_size}

-- the fields are those of the user attribute at a place
abbrev pub FieldsOf : List ℕ → ℕ → UserFields → Type 0
FieldsOf B at f =
    (f.namespace ≡ le (part B at 1)) × (f.type_at ≡ type_at B at) × (type_number f.value.value_type ≡ le (part B (type_at B at) 1))
    × (f.value.behind ≡ value_at B at + value_size B at)
