-- The document header: what its bytes say, and its rules in the order in which they are judged. Assumes nothing.
use Rattle.std.specs.Prelude.{◌≡◌, ℕ, ◌+◌, ◌/◌, ◌%◌, ◌^◌, ◌≤◌, Bool, true, false, cond, ◌||◌, ◌⊎◌, List, [], ◌∷◌, ◌++◌, length, take, IfErr, Ok, Err, codes, Result, MatchResult, ◌==◌, nat_le, slice_index, slice_index_or}
use Rattle.std.specs.Result.{result_and}
use Rattle.std.specs.List.{AllByRecursion}
use Rattle.awd_fault.specs.declared.Fault.{Fault}
use Rattle.awd_fault.specs.Faults.{Report, report, in_header}
use Rattle.awd_source.specs.Bytes.{part, le}
use Rattle.awd_header.specs.declared.Header.{Header}

-- bit k of a number
abbrev pub bit : ℕ → ℕ → Bool
bit n k = n / 2 ^ k % 2 == 1

abbrev pub flags_of : List ℕ → ℕ
flags_of b = le (part b 5 2)

abbrev pub body_length : List ℕ → ℕ
body_length b = le (part b 8 4)

-- the body length is left open
abbrev pub streaming : List ℕ → Bool
streaming b = bit (flags_of b) 0

-- what the header says
abbrev pub header_of : List ℕ → Header
header_of b = record { version = slice_index b 3; revision = slice_index b 4; flags = flags_of b }

-- a rule: whether it is kept, and the cause and the place of the fault if it is not
pub record Rule : Type 0 where
  pub kept : Bool
  pub cause : ℕ
  pub place : ℕ

abbrev pub rule : ℕ → ℕ → Bool → Rule
rule cause place kept = record { kept = kept; cause = cause; place = place }

-- the fault of a rule that is not kept
abbrev pub rule_fault : Rule → Report
rule_fault r = in_header r.cause r.place

-- nothing, or the fault of the first rule that is not kept
abbrev pub judged : List Rule → Result (Unit {0}) Report
judged [] = Ok tt
judged (r ∷ rs) = cond r.kept (judged rs) (Err (rule_fault r))

-- the document is neither shorter than its header nor longer than 16,777,216 bytes
abbrev pub size_rules : List ℕ → List Rule
size_rules b = rule 2 (length b) (nat_le 12 (length b)) ∷ rule 3 16777216 (nat_le (length b) 16777216) ∷ []

-- from place i on these characters stand, each by a rule of its own
abbrev pub spelled : List ℕ → ℕ → List ℕ → List Rule
spelled b i [] = []
spelled b i (c ∷ cs) = rule 4 i (slice_index b i == c) ∷ spelled b (i + 1) cs

abbrev pub magic_rules : List ℕ → List Rule
magic_rules b = spelled b 0 (codes "AWD")

-- version 2, revision 0 or 1, no compression, and the body length that of the bytes behind the header, unless it is left open
abbrev pub field_rules : List ℕ → List Rule
field_rules b =
    rule 5 3 (slice_index b 3 == 2) ∷
    rule 5 4 (nat_le (slice_index b 4) 1) ∷
    rule 6 7 (slice_index b 7 == 0) ∷
    rule 7 8 (streaming b || 12 + body_length b == length b) ∷
    []

-- all rules, in order
abbrev pub rules : List ℕ → List Rule
rules b = size_rules b ++ (magic_rules b ++ field_rules b)

-- what opening a list of bytes answers: the fault of the judgement, or else what the header says
abbrev pub opening : List ℕ → Result Header Report
opening b = result_and (judged (rules b)) (Ok (header_of b))

-- a document that may be opened
pub record Lawful (b : List ℕ) : Type 0 where
  pub long : 12 ≤ length b
  pub short : length b ≤ 16777216
  pub magic : take 3 b ≡ codes "AWD"
  pub version : slice_index_or b 3 0 ≡ 2
  pub revision : slice_index_or b 4 0 ≤ 1
  pub plain : slice_index_or b 7 0 ≡ 0
  pub body : (streaming b ≡ true) ⊎ (12 + body_length b ≡ length b)

abbrev pub AllKept : List Rule → Type 0
AllKept rs = AllByRecursion (λ r. r.kept ≡ true) rs

-- a fault is that of the first broken rule: those before it are kept, and it is not
pub record FirstBroken (rs : List Rule) (f : Report) : Type 0 where
  pub before : List Rule
  pub broken : Rule
  pub after : List Rule
  pub all : rs ≡ before ++ (broken ∷ after)
  pub kept : AllKept before
  pub not_kept : broken.kept ≡ false
  pub told : f ≡ rule_fault broken

-- an answer is right of a document: an acceptance says that it is lawful, a refusal that it is not, and which rule is the first broken
pub record Right {A : Type 0} (b : List ℕ) (r : Result A Fault) : Type 0 where
  pub lawful : MatchResult r (λ _. Lawful b) (λ _. Lawful b → ⊥)
  pub first : IfErr r (λ f. FirstBroken (rules b) (report f))
