-- Calls and answers as plain numbers. Assumes nothing.
use Rattle.std.specs.Prelude.{ℕ, ◌^◌, cond, List, [], ◌∷◌, slice_index_or, Some, None, Option, ◌==◌, nat_lt, from_bits, to_bits}
use Rattle.std.specs.Float.{binary32, binary64}
use Rattle.std.specs.Option.{option_map}
use Rattle.awd_calls.specs.declared.calls.Call as calls
use Rattle.awd_calls.specs.declared.calls.Call.TheVariants as call
use Rattle.awd_calls.specs.Answers.{Value, nothing, fault, number, what_block_tells, what_header_says, float}
use Rattle.awd_contents.specs.declared.contents.Cell as content
use Rattle.awd_contents.specs.declared.contents.Cell.TheVariants.{Single, Double}
use Rattle.awd_codes.specs.declared.calls.AwdCall.{AwdCall}
use Rattle.awd_codes.specs.declared.calls.AwdAnswer.{AwdAnswer}
use Rattle.awd_codes.specs.Records.{no_fault, fault_code, no_header, header_code, no_block, block_code}

-- a single float by its bits, of which there are 32
abbrev pub single_of : ℕ → Option content.Cell
single_of bits = cond (nat_lt bits (2 ^ 32)) (Some (Single (from_bits binary32 bits))) None

-- a double float by its bits
abbrev pub double_of : ℕ → content.Cell
double_of bits = Double (from_bits binary64 bits)

-- the calls by number from 0, with what the numbers give them
abbrev pub calls_of : AwdCall → List (Option calls.Call)
calls_of c =
    Some call.Open ∷
    Some call.Next ∷
    Some (call.Reparent c.number c.address) ∷
    Some (call.Dress c.number c.which c.address) ∷
    option_map (call.Nudge c.number c.which) (single_of c.content) ∷
    Some (call.Nudge c.number c.which (double_of c.content)) ∷
    Some call.Undo ∷
    Some call.Count ∷
    Some call.Edits ∷
    Some (call.Record c.number) ∷
    Some (call.NumberOf c.address) ∷
    Some (call.Material c.number c.which) ∷
    Some (call.Cell c.number c.which) ∷
    Some (call.Path c.number) ∷
    Some call.Length ∷
    Some (call.Byte c.number) ∷
    []

-- the call that the numbers are, if they are one
abbrev pub call_of : AwdCall → Option calls.Call
call_of c = slice_index_or (calls_of c) c.what None

-- an answer that says nothing more; of 0 there is no call
abbrev pub plain : ℕ → AwdAnswer
plain what = record { number = 0; fault = no_fault; block = no_block; header = no_header; what = what }

-- one that says a number
abbrev pub with_number : ℕ → ℕ → AwdAnswer
with_number what n = record (plain what) { number = n }

-- what a call answers: 1 refused, 2 done, 3 opened, 4 none, 5 a number, 6 a block, 7 a single and 8 a double float
abbrev pub answer_code : Value → AwdAnswer
answer_code (fault f) = record (plain 1) { fault = fault_code f }
answer_code nothing = plain 2
answer_code (what_header_says h) = record (plain 3) { header = header_code h }
answer_code (number None) = plain 4
answer_code (number (Some n)) = with_number 5 n
answer_code (what_block_tells None) = plain 4
answer_code (what_block_tells (Some r)) = record (plain 6) { block = block_code r }
answer_code (float None) = plain 4
answer_code (float (Some (case, x))) = cond (case == 1) (with_number 7 (to_bits binary32 x)) (with_number 8 (to_bits binary64 x))
