-- Worked examples of texts, lists, runs, attributes and values. Assumes nothing.
use Rattle.std.specs.Prelude.{◌≡◌, ℕ, true, false, List, [], ◌∷◌, ◌++◌, replicate, pos, negsuc, Some, None, Ok, Err, codes}
use Rattle.awd_fault.specs.declared.Cause.TheVariants.{ValueNotAllowed}
use Rattle.awd_fault.specs.Faults.{Report}
use Rattle.awd_block_fault.specs.declared.BlockFault.TheVariants.{Field, Entry}
use Rattle.awd_block_fault.specs.Faults.{fault, short, in_entry, in_block}
use Rattle.awd_format.specs.Shapes.{read_of, text, counted}
use Rattle.awd_value.specs.Values.{value_of, integer, natural, truth}
use Rattle.awd_attributes.specs.Attributes.{user, properties, user_list}
use Rattle.awd_attributes.specs.Reader.{answer_at, ended, refusal, attribute}

-- the kitchen's container as far as its end at 97: from byte 86 on its name, "a", and two empty lists
abbrev pub container : List ℕ
container = replicate 86 0 ++ (1 ∷ 0 ∷ 97 ∷ []) ++ replicate 8 0

-- a list of three numeric attributes, of 2, 0 and 1 bytes, with a total: 21 is right
abbrev pub three : ℕ → List ℕ
three total =
    (total ∷ 0 ∷ 0 ∷ 0 ∷ []) ++ (1 ∷ 0 ∷ 2 ∷ 0 ∷ 0 ∷ 0 ∷ 7 ∷ 7 ∷ []) ++ (2 ∷ 0 ∷ 0 ∷ 0 ∷ 0 ∷ 0 ∷ []) ++ (3 ∷ 0 ∷ 1 ∷ 0 ∷ 0 ∷ 0 ∷ 9 ∷ [])

-- a user attribute in namespace 1 under "ab", by its type, its size and its value
abbrev pub under_ab : ℕ → ℕ → List ℕ → List ℕ
under_ab type size value = (1 ∷ 2 ∷ 0 ∷ []) ++ codes "ab" ++ (type ∷ size ∷ 0 ∷ 0 ∷ 0 ∷ []) ++ value

abbrev pub report : ℕ → ℕ → ℕ → ℕ → Report
report cause place block index = record { cause = cause; place = place; block = block; layer = 3; index = Some index }

pub record Parts : Type 0 where
  pub name : read_of text container 86 97 ≡ Ok 89
  pub no_properties : read_of properties container 89 97 ≡ Ok 93
  pub no_user_list : read_of user_list container 93 97 ≡ Ok 97
  -- a body of 62 bytes in place of 63
  pub container_62 : read_of user_list container 93 96 ≡ Err (Field (short 93))
  pub three_properties : read_of properties (three 21) 0 25 ≡ Ok 25
  pub total_22 : read_of properties (three 22) 0 25 ≡ Err (Field (short 4))
  pub total_20 : read_of properties (three 20) 0 25 ≡ Err (Entry (in_entry 2 (short 24)))
  pub total_15 : read_of properties (three 15) 0 25 ≡ Err (Entry (in_entry 2 (short 18)))
  -- of two lists the second, whose third attribute does not fit: the index is the list's
  pub outermost : read_of (counted 2 (λ i. properties)) (three 21 ++ three 20) 0 50 ≡ Err (Entry (in_entry 1 (short 49)))
  pub report_of_entry : in_block 7 (Entry (in_entry 1 (short 49))) ≡ report 10 49 7 1
  pub signed_byte : read_of (user 0) (under_ab 1 1 (249 ∷ [])) 0 11 ≡ Ok 11
  pub type_11 : read_of (user 0) (under_ab 11 1 (249 ∷ [])) 0 11 ≡ Err (Field (fault ValueNotAllowed 5))
  pub type_2_of_1 : read_of (user 0) (under_ab 2 1 (249 ∷ [])) 0 11 ≡ Err (Field (fault ValueNotAllowed 6))
  pub text_of_2 : read_of (user 0) (under_ab 31 2 (249 ∷ [])) 0 11 ≡ Err (Field (short 10))
  pub next_attribute : answer_at (under_ab 1 1 (249 ∷ [])) 0 0 ≡ attribute 11
  pub no_more : answer_at (under_ab 1 1 (249 ∷ [])) 11 1 ≡ ended
  pub next_fault : answer_at (under_ab 31 2 (249 ∷ [])) 0 0 ≡ refusal (report 10 10 0 0)
  pub minus_7 : value_of 1 (249 ∷ []) ≡ Some (1, integer (negsuc 6))
  pub least_of_16_bits : value_of 2 (0 ∷ 128 ∷ []) ≡ Some (1, integer (negsuc 32767))
  pub most_of_32_bits : value_of 3 (255 ∷ 255 ∷ 255 ∷ 127 ∷ []) ≡ Some (1, integer (pos 2147483647))
  pub unsigned : value_of 5 (1 ∷ 2 ∷ []) ≡ Some (2, natural 513)
  pub yes : value_of 21 (128 ∷ []) ≡ Some (5, truth true)
  pub no_answer : value_of 21 (0 ∷ []) ≡ Some (5, truth false)
  pub colour : value_of 22 (1 ∷ 2 ∷ 3 ∷ 4 ∷ []) ≡ Some (2, natural 67305985)
  pub text_is_no_number : value_of 31 (65 ∷ []) ≡ None
  pub three_bytes : value_of 3 (1 ∷ 2 ∷ 3 ∷ []) ≡ None
