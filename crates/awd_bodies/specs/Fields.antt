-- What several bodies have: addresses, matrices, and the two lists at the end. Assumes nothing.
use Rattle.std.specs.Prelude.{ℕ, zero, suc, List}
use Rattle.awd_fault.specs.declared.Cause.TheVariants.{AddressNotLawful}
use Rattle.awd_format.specs.Shapes.{Shape, number, bytes, counted, also, any_number}
use Rattle.awd_attributes.specs.Attributes.{properties, user_list}
use Rattle.awd_roster.specs.declared.record.Record.{Record}
use Rattle.awd_roster.specs.declared.record.Target.{Target}
use Rattle.awd_roster.specs.Addresses.{lawful_address}

-- an address (4) that is lawful after some blocks
abbrev pub address_to : Target → List Record → Shape
address_to target before = number 4 (lawful_address target before) AddressNotLawful (λ address. bytes 0)

-- a count (2) and that many addresses
abbrev pub addresses : Target → List Record → Shape
addresses target before = any_number 2 (λ count. counted count (λ i. address_to target before))

-- so many numbers of a width, each a field of its own
unfoldable pub numbers : ℕ → ℕ → Shape
numbers zero width = bytes 0
numbers (suc n) width = any_number width (λ v. numbers n width)

-- a matrix: 12 floats of the matrix width
abbrev pub matrix : ℕ → Shape
matrix width = numbers 12 width

-- properties and a user list
abbrev pub lists : Shape
lists = also properties user_list
