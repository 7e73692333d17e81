-- Where the fields of a user attribute lie that begins at a place. Assumes nothing.
use Rattle.std.specs.Prelude.{ℕ, ◌+◌, List}
use Rattle.awd_source.specs.Bytes.{le, part}

-- the length of the key, which comes behind the namespace
abbrev pub key_size : List ℕ → ℕ → ℕ
key_size B at = le (part B (at + 1) 2)

-- the key's bytes
abbrev pub key_at : ℕ → ℕ
key_at at = at + 1 + 2

-- the type, right behind the key
abbrev pub type_at : List ℕ → ℕ → ℕ
type_at B at = key_at at + key_size B at

-- the size of the value, which comes behind the type
abbrev pub value_size : List ℕ → ℕ → ℕ
value_size B at = le (part B (type_at B at + 1) 4)

-- the value's bytes, the last of the attribute
abbrev pub value_at : List ℕ → ℕ → ℕ
value_at B at = type_at B at + 1 + 4
