-- An answer as a line of text. Assumes nothing.
use Rattle.std.specs.Prelude.{ℕ, ◌-◌, false, List, ◌++◌, length, replicate, Some, None, Option, codes, decimal, to_bits}
use Rattle.std.specs.Float.{binary32, binary64}
use Rattle.std.specs.Fmt.{digits}
use Rattle.std.specs.Option.{option_map}
use Rattle.awd_fault.specs.declared.Fault.{Fault}
use Rattle.awd_fault.specs.Faults.{cause_number, layer_number}
use Rattle.awd_roster.specs.declared.record.Record.{Record}
use Rattle.awd_roster.specs.declared.record.Span.{Span}
use Rattle.awd_contents.specs.declared.contents.Cell.{Cell}
use Rattle.awd_contents.specs.declared.contents.Cell.TheVariants.{Single, Double}
use Rattle.awd_calls.specs.declared.calls.Answer as answers
use Rattle.awd_calls.specs.declared.calls.Answer.TheVariants as answer

-- what is wrong with a line that is no call
abbrev pub no_call_text : List ℕ
no_call_text = codes "the line is no call"

-- a number, or a dash where there is none
abbrev pub or_dash : Option ℕ → List ℕ
or_dash None = codes "-"
or_dash (Some n) = decimal n

-- a number that there is, or that there is none
abbrev pub or_none : Option ℕ → List ℕ
or_none None = codes "none"
or_none (Some n) = codes "some " ++ decimal n

-- a number that is not the last on its line
abbrev pub item : ℕ → List ℕ
item n = decimal n ++ codes " "

-- cause, place, block, layer and entry of a refusal
abbrev pub fault_words : Fault → List ℕ
fault_words f =
    codes "fault " ++ (item (cause_number f.cause) ++ (item f.place ++ (item f.block ++ (item (layer_number f.layer) ++ or_dash f.index))))

-- ID, namespace, kind, place, size and parent of a block, and the place and length of its name
abbrev pub record_text : Record → List ℕ
record_text r =
    codes "some " ++ (item r.id ++ (item r.namespace ++ (item r.kind ++ (item r.place ++ (item r.size ++ (or_dash r.parent ++ (codes " "
    ++ (or_dash (option_map (λ (s : Span). s.place) r.name) ++ (codes " " ++ or_dash (option_map (λ (s : Span). s.length) r.name))))))))))

-- a number in just so many hexadecimal digits
abbrev pub hexadecimal : ℕ → ℕ → List ℕ
hexadecimal k n = replicate (k - length (digits 16 false n)) 48 ++ digits 16 false n

-- a float by its bits; every not-a-number has the same
abbrev pub cell_text : Cell → List ℕ
cell_text (Single x) = codes "some s " ++ hexadecimal 8 (to_bits binary32 x)
cell_text (Double x) = codes "some d " ++ hexadecimal 16 (to_bits binary64 x)

-- an answer as a line
abbrev pub answer_text : answers.Answer → List ℕ
answer_text (answer.Refused f) = fault_words f
answer_text answer.Done = codes "ok"
answer_text (answer.Opened h) = codes "ok"
answer_text (answer.Taken n) = or_none n
answer_text (answer.Count n) = decimal n
answer_text (answer.Record None) = codes "none"
answer_text (answer.Record (Some r)) = record_text r
answer_text (answer.Number n) = or_none n
answer_text (answer.Address n) = or_none n
answer_text (answer.Content None) = codes "none"
answer_text (answer.Content (Some c)) = cell_text c
answer_text (answer.Byte n) = or_none n
