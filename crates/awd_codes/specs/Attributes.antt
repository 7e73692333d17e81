-- What comes of reading the user attributes of a part, one after another. Assumes nothing.
use Rattle.std.specs.Prelude.{ℕ, zero, suc, ◌+◌, cond, List, [], ◌∷◌, length, map, ◌==◌, to_bits}
use Rattle.std.specs.Float.{binary32, binary64}
use Rattle.std.specs.Int.{w64, cast_unsigned}
use Rattle.awd_source.specs.Bytes.{le, part}
use Rattle.awd_attributes.specs.Fields.{key_size, key_at, type_at, value_size, value_at}
use Rattle.awd_attributes.specs.Reader.{Answer, answer_at, attribute, refusal, ended}
use Rattle.awd_value.specs.Values.{Content, integer, natural, float, truth, value_in}
use Rattle.awd_codes.specs.declared.attributes.AwdAttribute.{AwdAttribute}
use Rattle.awd_codes.specs.declared.attributes.AwdAttributes.{AwdAttributes}
use Rattle.awd_codes.specs.declared.records.AwdFault.{AwdFault}
use Rattle.awd_codes.specs.Records.{no_fault, fault_code}

-- what a number says: which meaning it has, and its number: 2 signed, in two's complement of 64 bits, 3 unsigned, 4 the bits of a single and 5
-- of a double float, 6 yes or no
abbrev pub number_code : ℕ × Content → ℕ × ℕ
number_code (case, integer z) = (2, cast_unsigned w64 z)
number_code (case, natural n) = (3, n)
number_code (case, float x) = cond (case == 3) (4, to_bits binary32 x) (5, to_bits binary64 x)
number_code (case, truth b) = (6, cond b 1 0)

-- what the bytes of a value say by its type: 0 a text, 1 raw bytes, else a number
abbrev pub meaning_of : ℕ → List ℕ → ℕ × ℕ
meaning_of type bytes = cond (type == 31) (0, 0) (cond (type == 32) (1, 0) (number_code (value_in type (length bytes) (le bytes))))

-- the attribute that begins at a place of a part
abbrev pub attribute_code : List ℕ → ℕ → AwdAttribute
attribute_code B at =
    let type = le (part B (type_at B at) 1) in
    let meaning = meaning_of type (part B (value_at B at) (value_size B at)) in
    record {
      key_place = key_at at;
      key_length = key_size B at;
      value_place = value_at B at;
      value_length = value_size B at;
      number = meaning.1;
      name_space = le (part B at 1);
      value_type = type;
      meaning = meaning.0;
    }

-- what a reader answers at a place: an attribute, behind which it goes on, or no more
abbrev pub going_on : ℕ → (ℕ → List ℕ × Answer) → Answer → List ℕ × Answer
going_on at further (attribute e) = (at ∷ (further e).0, (further e).1)
going_on at further ended = ([], ended)
going_on at further (refusal x) = ([], refusal x)

-- so many answers of a reader, from a place and an index on: where the attributes begin, and the answer behind them
unfoldable pub walk : List ℕ → ℕ → ℕ → ℕ → List ℕ × Answer
walk B zero at i = ([], answer_at B at i)
walk B (suc n) at i = going_on at (λ e. walk B n e (i + 1)) (answer_at B at i)

-- a whole part: no attribute is empty, so there are not more of them than bytes
abbrev pub whole_walk : List ℕ → List ℕ × Answer
whole_walk B = walk B (length B) 0 0

-- the refusal that a reading ends with, if it does
abbrev pub fault_in : Answer → AwdFault
fault_in (refusal x) = fault_code x
fault_in ended = no_fault
fault_in (attribute e) = no_fault

abbrev pub attributes_of : List ℕ → List AwdAttribute
attributes_of B = map (attribute_code B) (whole_walk B).0

abbrev pub reading_of : List ℕ → AwdAttributes
reading_of B = record { count = length (whole_walk B).0; fault = fault_in (whole_walk B).1 }
