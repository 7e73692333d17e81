-- What an attribute reader answers, over a part of the caller's memory. Assumes nothing.
use Rattle.std.specs.Prelude.{◌≡◌, ℕ, ◌+◌, cond, List, length, Some, None, Ok, Err, Option, Result, nat_le}
use Rattle.awd_fault.specs.declared.Fault.{Fault}
use Rattle.awd_fault.specs.Faults.{Report, report}
use Rattle.awd_block_fault.specs.declared.FieldFault.{FieldFault}
use Rattle.awd_block_fault.specs.declared.BlockFault.TheVariants.{Entry}
use Rattle.awd_block_fault.specs.Faults.{in_entry, in_block}
use Rattle.awd_format.specs.Shapes.{entry_of}
use Rattle.awd_attributes.specs.declared.attribute.Attribute.{Attribute}
use Rattle.awd_attributes.specs.declared.kinds.UserFields.{UserFields}
use Rattle.awd_attributes.specs.declared.reader.AttributeReader.{AttributeReader}
use Rattle.awd_attributes.specs.Attribute.{Is}
use Rattle.awd_attributes.specs.Attributes.{user}

-- what a reader is to answer: that there are no more, a fault, or an attribute, with the place behind it
pub data Answer : Type 0 where
  ended : Answer
  refusal : Report → Answer
  attribute : ℕ → Answer

-- what the reading of the attribute of index i comes to
abbrev pub judged : ℕ → Result ℕ FieldFault → Answer
judged i (Ok e) = attribute e
judged i (Err x) = refusal (in_block 0 (Entry (in_entry i x)))

-- what fields, or a fault, say as an answer
abbrev pub as_answer : Result UserFields Fault → Answer
as_answer (Ok f) = attribute f.value.behind
as_answer (Err f) = refusal (report f)

-- at the end of its part none, else the user attribute there, of index i, or its fault; places count from the part's start
abbrev pub answer_at : List ℕ → ℕ → ℕ → Answer
answer_at B at i = cond (nat_le (length B) at) ended (judged i (entry_of (user i) B at (length B)))

-- a result is a fault that says x
abbrev pub Faulted : Result (Option Attribute) Fault → Report → Type 0
Faulted (Ok o) x = ⊥
Faulted (Err f) x = report f ≡ x

-- a result is an attribute of which P holds
abbrev pub Gives : Result (Option Attribute) Fault → (Attribute → Type 0) → Type 0
Gives (Ok (Some a)) P = P a
Gives (Ok None) P = ⊥
Gives (Err f) P = ⊥

-- a reader gives an answer and is another reader then; only an attribute moves it
abbrev pub Tells : AttributeReader → Result (Option Attribute) Fault → AttributeReader → Answer → Type 0
Tells before r after ended = (r ≡ Ok None) × (after ≡ before)
Tells before r after (refusal x) = Faulted r x × (after ≡ before)
Tells before r after (attribute e) =
    Gives r (Is before.part.held before.at e) × (after.part ≡ before.part) × (after.at ≡ e) × (after.index ≡ before.index + 1)
