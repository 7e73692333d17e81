-- The text that awdlist writes for an input. Assumes nothing.
use Rattle.std.specs.Prelude.{ℕ, ◌+◌, cond, List, [], ◌∷◌, ◌++◌, length, Some, None, Option, Ok, Err, codes, decimal, Result, nat_lt}
use Rattle.awd_fault.specs.Faults.{Report}
use Rattle.awd_header.specs.declared.Header.{Header}
use Rattle.awd_roster.specs.declared.record.Record.{Record}
use Rattle.awd_session.specs.State.{State, fresh, open_answer, after_open, records_of, next_answer}
use Rattle.awd_session.specs.Asked.{asked}

-- every line ends in a line feed
abbrev pub newline : List ℕ
newline = 10 ∷ []

-- a number that is not the last on its line
abbrev pub item : ℕ → List ℕ
item n = decimal n ++ codes " "

-- version, flags and length of an opened document
abbrev pub opened_line : Header → ℕ → List ℕ
opened_line h n =
    codes "AWD " ++ (decimal h.version ++ (codes "." ++ (decimal h.revision ++ (codes " flags " ++ (decimal h.flags ++ (codes " length " ++ (decimal n ++ newline)))))))

-- a parent's address, or a dash where the block has no such field
abbrev pub parent_text : Option ℕ → List ℕ
parent_text None = codes "-"
parent_text (Some address) = decimal address

-- number, ID, namespace, kind, place, size and parent of a block
abbrev pub block_line : ℕ → Record → List ℕ
block_line number r =
    item number ++ (item r.id ++ (item r.namespace ++ (item r.kind ++ (item r.place ++ (item r.size ++ (parent_text r.parent ++ newline))))))

-- how many blocks were taken, where the bytes are used up
abbrev pub end_line : ℕ → List ℕ
end_line count = codes "end " ++ (decimal count ++ newline)

-- cause, place and block of a refusal
abbrev pub fault_line : Report → List ℕ
fault_line f = codes "fault " ++ (decimal f.cause ++ (codes " " ++ (decimal f.place ++ (codes " " ++ (decimal f.block ++ newline)))))

-- the lines of some blocks, whose numbers count on from a first
abbrev pub block_lines : ℕ → List Record → List ℕ
block_lines first [] = []
block_lines first (r ∷ rs) = block_line first r ++ block_lines (first + 1) rs

-- the last line: how many blocks there are, or the fault of the one that was not taken
abbrev pub last_line : ℕ → Result (Option ℕ) Report → List ℕ
last_line count (Ok o) = end_line count
last_line count (Err f) = fault_line f

-- the lines of the blocks that a session has taken, and the last line
abbrev pub lines_of : State → List ℕ
lines_of s = block_lines 0 (records_of s) ++ last_line s.taken (next_answer s)

-- what an opening leads to: a refusal's only line, or the document's line and those of its blocks. There are 512 blocks at most, so a session that
-- was asked for so many has taken all.
abbrev pub document_text : State → Result Header Report → List ℕ
document_text s (Ok h) = opened_line h (length s.source) ++ lines_of (asked 512 (after_open s))
document_text s (Err f) = fault_line f

-- an input of more than 65,536 bytes is not read
abbrev pub listing_of : List ℕ → List ℕ
listing_of b =
    cond (nat_lt 65536 (length b)) (codes "input over 65536" ++ newline) (document_text (fresh b) (open_answer (fresh b)))
