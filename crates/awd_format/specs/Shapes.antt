-- Shapes: a part of the format as a value, the set of byte lists that it stands for, and how it is read. Assumes nothing.
use Rattle.std.specs.Prelude.{◌≡◌, ℕ, ◌+◌, ◌-◌, ◌≤◌, Bool, true, cond, List, [], length, Some, None, Ok, Err, Option, Result}
use Rattle.awd_fault.specs.declared.Cause.{Cause}
use Rattle.awd_fault.specs.declared.Cause.TheVariants.{ValueNotAllowed}
use Rattle.awd_source.specs.Bytes.{le, part}
use Rattle.awd_block_fault.specs.declared.FieldFault.{FieldFault}
use Rattle.awd_block_fault.specs.declared.BlockFault.{BlockFault}
use Rattle.awd_block_fault.specs.declared.BlockFault.TheVariants.{Field, Entry}
use Rattle.awd_block_fault.specs.Faults.{fault, field_of, on, turned}
use Rattle.awd_source.specs.Fields.{number_at, bytes_at}
use Rattle.awd_format.specs.Runs.{counted_at, measured_at}
use Rattle.awd_format.specs.Sets.{Wide, Then, Counted, Measured}

pub data Shape : Type 0 where
  -- a number of so many bytes, the values that it may have, the cause at any other, and what follows a value
  number : ℕ → (ℕ → Bool) → Cause → (ℕ → Shape) → Shape
  -- so many bytes of any content
  bytes : ℕ → Shape
  -- so many entries, each by its index
  counted : ℕ → (ℕ → Shape) → Shape
  -- entries that fill so many bytes, each by its index
  measured : ℕ → (ℕ → Shape) → Shape
  -- one after another
  also : Shape → Shape → Shape
  -- bytes that pass a further test, which gives their flaw if they have one: a cause, and a place counted from the first of them
  sound : Shape → (List ℕ → Option FieldFault) → Shape

-- a set, where a test holds
abbrev pub Given : Bool → (List ℕ → Type 0) → List ℕ → Type 0
Given b P m = (b ≡ true) × P m

-- the byte lists that a shape stands for
abbrev pub SetOf : Shape → List ℕ → Type 0
SetOf (number width allowed cause next) = Then (Wide width) (λ digits. Given (allowed (le digits)) (SetOf (next (le digits))))
SetOf (bytes n) = Wide n
SetOf (counted n entry) = Counted (λ i. SetOf (entry i)) 0 n
SetOf (measured n entry) = Measured (λ i. SetOf (entry i)) 0 n
SetOf (also a b) = Then (SetOf a) (λ _. SetOf b)
SetOf (sound a flaw) = λ m. SetOf a m × (flaw m ≡ None)

-- the place e behind bytes that begin at a place, or their flaw
abbrev pub tested : ℕ → ℕ → Option FieldFault → Result ℕ BlockFault
tested at e None = Ok e
tested at e (Some x) = Err (Field (fault x.cause (at + x.place)))

-- how a shape is read from a place in a holder that ends at end: the place behind it, or its first fault. A fault in an entry's own runs is
-- told as one of that entry.
abbrev pub read_of : Shape → List ℕ → ℕ → ℕ → Result ℕ BlockFault
read_of (number width allowed cause next) B at end =
    on Field (number_at B at end width)
    (λ v. cond (allowed v) (read_of (next v) B (at + width) end) (Err (Field (fault cause at))))
read_of (bytes n) B at end = turned Field (bytes_at at end n)
read_of (counted n entry) B at end = turned Entry (counted_at (λ i C p q. turned field_of (read_of (entry i) C p q)) B end n 0 at)
read_of (measured n entry) B at end = measured_at (λ i C p q. turned field_of (read_of (entry i) C p q)) B at end n
read_of (also a b) B at end = on (λ x. x) (read_of a B at end) (λ e. read_of b B e end)
read_of (sound a flaw) B at end = on (λ x. x) (read_of a B at end) (λ e. tested at e (flaw (part B at (e - at))))

-- how a shape is read as an entry
abbrev pub entry_of : Shape → List ℕ → ℕ → ℕ → Result ℕ FieldFault
entry_of L B at end = turned field_of (read_of L B at end)

-- the entries of its runs are not empty
abbrev pub Filled : Shape → Type 0
Filled (number width allowed cause next) = (v : ℕ) → Filled (next v)
Filled (bytes n) = Unit {0}
Filled (counted n entry) = (i : ℕ) → (SetOf (entry i) [] → ⊥) × Filled (entry i)
Filled (measured n entry) = (i : ℕ) → (SetOf (entry i) [] → ⊥) × Filled (entry i)
Filled (also a b) = Filled a × Filled b
Filled (sound a flaw) = Filled a

-- what its tests find lies inside the bytes tested
abbrev pub TestsInside : Shape → Type 0
TestsInside (number width allowed cause next) = (v : ℕ) → TestsInside (next v)
TestsInside (bytes n) = Unit {0}
TestsInside (counted n entry) = (i : ℕ) → TestsInside (entry i)
TestsInside (measured n entry) = (i : ℕ) → TestsInside (entry i)
TestsInside (also a b) = TestsInside a × TestsInside b
TestsInside (sound a flaw) = TestsInside a × ((m : List ℕ) (x : FieldFault) → flaw m ≡ Some x → x.place ≤ length m)

-- every value
abbrev pub any : ℕ → Bool
any v = true

-- a number of any value, and what follows it
abbrev pub any_number : ℕ → (ℕ → Shape) → Shape
any_number width next = number width any ValueNotAllowed next

-- a text: a length (2) and that many bytes
abbrev pub text : Shape
text = any_number 2 (λ n. bytes n)

-- a list: a total (4) and entries that fill so many bytes; the total does not count itself
abbrev pub list : (ℕ → Shape) → Shape
list entry = any_number 4 (λ total. measured total entry)
