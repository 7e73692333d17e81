-- What an answer says. Assumes nothing.
use Rattle.std.specs.Prelude.{ℕ, Some, Option, Float}
use Rattle.std.specs.Option.{option_map}
use Rattle.awd_fault.specs.Faults.{Report, report}
use Rattle.awd_header.specs.declared.Header.{Header}
use Rattle.awd_roster.specs.declared.record.Record as roster
use Rattle.awd_contents.specs.Contents.{told}
use Rattle.awd_calls.specs.declared.calls.Answer as answers
use Rattle.awd_calls.specs.declared.calls.Answer.TheVariants.{Refused, Done, Opened, Taken, Count, Record, Number, Address, Content, Byte}

-- the value that comes with an answer
pub data Value : Type 0 where
  nothing : Value
  fault : Report → Value
  -- a number, or none
  number : Option ℕ → Value
  what_block_tells : Option roster.Record → Value
  what_header_says : Header → Value
  -- a float by its case and its value
  float : Option (ℕ × Float) → Value

-- what an answer says: which of the answers it is, by number, and its value
abbrev pub said : answers.Answer → ℕ × Value
said (Refused f) = (0, fault (report f))
said Done = (1, nothing)
said (Taken n) = (2, number n)
said (Count n) = (3, number (Some n))
said (Record r) = (4, what_block_tells r)
said (Number n) = (5, number n)
said (Address n) = (6, number n)
said (Content c) = (7, float (option_map told c))
said (Byte b) = (8, number b)
said (Opened h) = (9, what_header_says h)
