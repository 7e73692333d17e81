-- Parts of a list of bytes, and what was read of them.
use Rattle.std.proofs.Common.{◌≡◌, ℕ, ◌+◌, ◌<◌, ◌≤◌, leb, List, length, get_or, drop, Ok, ◌∙◌, arith, length-drop, length-take}
use Rattle.std.proofs.lemmas.Bool.{leb-true}
use Rattle.std.proofs.lemmas.List.{get_or-take, get_or-drop}
use Rattle.awd_source.specs.Bytes.{le, part}
use Rattle.awd_source.specs.Fields.{number_at, bytes_at}
use Rattle.awd_block_fault.specs.Faults.{short}
use Rattle.awd_block_fault.proofs.Passed.{allowed-ok}

-- how long a part is
pub length_part : (B : List ℕ) (at n : ℕ) → at + n ≤ length B → length (part B at n) ≡ n
length_part B at n h = simp (length-take, length-drop) (omega arith)

-- a byte of a part is one of the list
pub part_byte : (B : List ℕ) (at n k : ℕ) → k < n → get_or (part B at n) k 0 ≡ get_or B (at + k) 0
part_byte B at n k h = get_or-take n (drop at B) k 0 h ∙ get_or-drop at B k 0

-- bytes that were read fit, and end where they say
pub bytes-read : (at end n q : ℕ) → bytes_at at end n ≡ Ok q → (at + n ≤ end) × (q ≡ at + n)
bytes-read at end n q is =
    let (fits, told) = allowed-ok (leb (at + n) end) (Ok (at + n)) (short at) q is in
    (leb-true (at + n) end fits, cc told)

-- a number that was read fits, and is the one that the bytes spell
pub number-read : (B : List ℕ) (at end width v : ℕ) → number_at B at end width ≡ Ok v → (at + width ≤ end) × (v ≡ le (part B at width))
number-read B at end width v is =
    let (fits, told) = allowed-ok (leb (at + width) end) (Ok (le (part B at width))) (short at) v is in
    (leb-true (at + width) end fits, cc told)
