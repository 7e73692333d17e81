-- Attributes and their lists, as shapes. Assumes nothing.
use Rattle.std.specs.Prelude.{ℕ}
use Rattle.awd_fault.specs.declared.Cause.TheVariants.{ValueNotAllowed}
use Rattle.awd_format.specs.Shapes.{Shape, number, bytes, also, any_number, text, list}
use Rattle.awd_value.specs.Types.{known, suits}

-- a numeric attribute: a key (2), a size (4) and that many bytes
abbrev pub numeric : ℕ → Shape
numeric i = any_number 2 (λ key. any_number 4 (λ size. bytes size))

-- a typed value: a type (1), a size (4) that suits the type, and that many bytes
abbrev pub typed : Shape
typed = number 1 known ValueNotAllowed (λ type. number 4 (suits type) ValueNotAllowed (λ size. bytes size))

-- a user attribute: a namespace (1), a key (text) and a typed value
abbrev pub user : ℕ → Shape
user i = any_number 1 (λ namespace. also text typed)

-- properties: a list of numeric attributes
abbrev pub properties : Shape
properties = list numeric

-- a user list: a list of user attributes
abbrev pub user_list : Shape
user_list = list user
