-- What is known of an attribute that a reader gave.
use Rattle.std.proofs.Common.{◌≡◌, ℕ, ◌+◌, ◌<◌, ◌≤◌, Bool, true, false, cond, leb, List, length, Some, None, Ok, Err, Result, sym, refl, ap, ◌∙◌, subst}
use Rattle.std.specs.Borrow.{Bor}
use Rattle.std.proofs.lemmas.Bool.{leb-false}
use Rattle.awd_fault.specs.declared.Cause.TheVariants.{ValueNotAllowed}
use Rattle.awd_source.specs.Bytes.{le, part}
use Rattle.awd_block_fault.specs.declared.FieldFault.{FieldFault}
use Rattle.awd_block_fault.specs.declared.BlockFault.TheVariants.{Field}
use Rattle.awd_block_fault.specs.Faults.{turned, field_of, fault}
use Rattle.awd_block_fault.proofs.Passed.{on-ok, unturned, allowed-ok}
use Rattle.awd_source.specs.Fields.{number_at, bytes_at}
use Rattle.awd_source.proofs.Parts.{length_part, bytes-read, number-read}
use Rattle.awd_format.specs.Shapes.{number, bytes, also, read_of, entry_of, text}
use Rattle.awd_value.specs.Types.{known, suits}
use Rattle.awd_attributes.specs.declared.attribute.Attribute.{Attribute}
use Rattle.awd_attributes.specs.declared.reader.AttributeReader.{AttributeReader}
use Rattle.awd_attributes.specs.Attribute.{Is, value_part}
use Rattle.awd_attributes.specs.Attributes.{user, typed}
use Rattle.awd_attributes.specs.Fields.{key_at, key_size, type_at, value_at, value_size}
use Rattle.awd_attributes.specs.Reader.{Answer, ended, refusal, attribute, judged, answer_at, Tells}

-- the size of a value that was read suits its type
module _ (B : List ℕ) (at : ℕ) where
  -- the type stands where the key ends
  key_read : (p : ℕ) → read_of text B (at + 1) (length B) ≡ Ok p → p ≡ type_at B at
  key_read p is =
      let (n, said, rest) = on-ok Field (number_at B (at + 1) (length B) 2) (λ n. turned Field (bytes_at (at + 1 + 2) (length B) n)) p is in
      let (_, ends) = bytes-read (at + 1 + 2) (length B) n p (unturned Field (bytes_at (at + 1 + 2) (length B) n) p rest) in
      let (_, spelled) = number-read B (at + 1) (length B) 2 n said in
      ends ∙ ap (λ k. at + 1 + 2 + k) spelled

  value_read : (p e : ℕ) → read_of typed B p (length B) ≡ Ok e → suits (le (part B p 1)) (le (part B (p + 1) 4)) ≡ true
  value_read p e is =
      let sized = λ (t : ℕ). read_of (number 4 (suits t) ValueNotAllowed (λ n. bytes n)) B (p + 1) (length B) in
      let (t, told, rest) = on-ok Field (number_at B p (length B) 1) (λ t. cond (known t) (sized t) (Err (Field (fault ValueNotAllowed p)))) e is in
      let (_, rest2) = allowed-ok (known t) (sized t) (Field (fault ValueNotAllowed p)) e rest in
      let behind = λ (n : ℕ). read_of (bytes n) B (p + 1 + 4) (length B) in
      let (n, counted, rest3) = on-ok Field (number_at B (p + 1) (length B) 4) (λ n. cond (suits t n) (behind n) (Err (Field (fault ValueNotAllowed (p + 1))))) e rest2 in
      let (right, _) = allowed-ok (suits t n) (behind n) (Field (fault ValueNotAllowed (p + 1))) e rest3 in
      let (_, type) = number-read B p (length B) 1 t told in
      let (_, size) = number-read B (p + 1) (length B) 4 n counted in
      ap (λ k. suits k (le (part B (p + 1) 4))) (sym type) ∙ ap (suits t) (sym size) ∙ right

  attribute_read : (i e : ℕ) → entry_of (user i) B at (length B) ≡ Ok e → suits (le (part B (type_at B at) 1)) (value_size B at) ≡ true
  attribute_read i e is =
      let whole = unturned field_of (read_of (user i) B at (length B)) e is in
      let (_, _, rest) = on-ok Field (number_at B at (length B) 1) (λ v. read_of (also text typed) B (at + 1) (length B)) e whole in
      let (p, key, value) = on-ok (λ x. x) (read_of text B (at + 1) (length B)) (λ q. read_of typed B q (length B)) e rest in
      ap (λ q. suits (le (part B q 1)) (le (part B (q + 1) 4))) (sym (key_read p key)) ∙ value_read p e value

  answer_is : (i e : ℕ) (b : Bool) (r : Result ℕ FieldFault) → cond b ended (judged i r) ≡ attribute e → (b ≡ false) × (r ≡ Ok e)
  answer_is i e true r is = absurd (cc is)
  answer_is i e false (Ok p) is = (refl, cc is)
  answer_is i e false (Err x) is = absurd (cc is)

  pub attribute_here : (i e : ℕ) → answer_at B at i ≡ attribute e → (at < length B) × (suits (le (part B (type_at B at) 1)) (value_size B at) ≡ true)
  attribute_here i e is =
      let (more, read) = answer_is i e (leb (length B) at) (entry_of (user i) B at (length B)) is in
      (leb-false (length B) at more, attribute_read i e read)

-- what a reader's answer says
module _ (w w' : AttributeReader) where
  pub gave_is : (a : Attribute) (answer : Answer) → Tells w (Ok (Some a)) w' answer → Is w.part.held w.at w'.at a
  gave_is a ended (p, q) = absurd (cc p)
  gave_is a (refusal x) (p, q) = absurd p
  gave_is a (attribute e) (p, q, r, s) = subst (λ e. Is w.part.held w.at e a) (sym r) p

  pub gave_none : (answer : Answer) → Tells w (Ok None) w' answer → answer ≡ ended
  gave_none ended t = refl
  gave_none (refusal x) (p, q) = absurd p
  gave_none (attribute e) (p, q, r, s) = absurd p

-- what an attribute that was read says of its parts
pub fits_in : (s : Bor (List ℕ)) (at e : ℕ) (a : Attribute) → Is s at e a
    → (length a.key.now ≡ key_size s.now at) × (length (value_part a.value).now ≡ value_size s.now at) × (e ≡ value_at s.now at + value_size s.now at)
    × (value_at s.now at + value_size s.now at ≤ length s.now)
fits_in s at e a is =
    let key = is.key in
    let value = is.value in
    (ap length key.1 ∙ length_part s.now (key_at at) (key_size s.now at) key.0, ap length value.1 ∙ length_part s.now (value_at s.now at) (value_size s.now at) value.0, is.ends, value.0)
