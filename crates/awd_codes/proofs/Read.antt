-- How a reading of attributes goes on from one to the next.
use Rattle.std.proofs.Common.{◌≡◌, ℕ, zero, suc, ◌+◌, ◌-◌, ◌<◌, ◌≤◌, true, List, [], ◌∷◌, ◌++◌, length, map, set, take, Some, None, Ok, Err, sym, refl, ap, ◌∙◌, subst, arith, append-nil, append_assoc, length-append}
use Rattle.std.proofs.lemmas.List.{take_at, length-map, map_push, length-take-le}
use Rattle.awd_fault.specs.declared.Fault.{Fault}
use Rattle.awd_fault.specs.Faults.{Report, report}
use Rattle.awd_source.specs.declared.run.Run.{Run}
use Rattle.awd_source.specs.Bytes.{le, part as part_of}
use Rattle.awd_value.specs.Types.{type_number, suits}
use Rattle.awd_attributes.specs.declared.attribute.Attribute.{Attribute}
use Rattle.awd_attributes.specs.declared.reader.AttributeReader.{AttributeReader}
use Rattle.awd_attributes.specs.Attribute.{Is, value_part}
use Rattle.awd_attributes.specs.Fields.{key_size, type_at, value_at, value_size}
use Rattle.awd_attributes.specs.Reader.{Answer, ended, refusal, attribute, answer_at, Tells}
use Rattle.awd_attributes.proofs.Walks.{gave, refused}
use Rattle.awd_attributes.proofs.Given.{attribute_here, gave_is, gave_none, fits_in}
use Rattle.awd_codes.specs.declared.attributes.AwdAttribute.{AwdAttribute}
use Rattle.awd_codes.specs.declared.records.AwdFault.{AwdFault}
use Rattle.awd_codes.specs.Attributes.{going_on, walk, whole_walk, attribute_code, fault_in, reading_of}
use Rattle.awd_codes.specs.Writing.{over}
use Rattle.awd_codes.proofs.Written.{over_more, over_full}

-- a reader that stood at a place, with so many attributes before it, gave one and is another reader then
pub record Gave (w w' : AttributeReader) (a : Attribute) (B : List ℕ) (at n : ℕ) : Type 0 where
  pub answer : answer_at B at n ≡ attribute w'.at
  pub is : Is w.part.held at w'.at a
  pub part : w'.part.held.now ≡ B
  pub index : w'.index ≡ n + 1
  pub key : length a.key.now ≡ key_size B at
  pub value : length (value_part a.value).now ≡ value_size B at
  pub ends : w'.at ≡ value_at B at + value_size B at
  pub inside : value_at B at + value_size B at ≤ length B
  pub right : suits (type_number a.value_type) (length (value_part a.value).now) ≡ true

module _ (w w' : AttributeReader) (a : Attribute) (tells : Tells w (Ok (Some a)) w' (answer_at w.part.held.now w.at w.index)) where
  abbrev held : List ℕ
  held = w.part.held.now

  gave_here : Gave w w' a held w.at w.index
  gave_here =
      let (answer, part, index) = gave w w' a (answer_at held w.at w.index) tells in
      let is = gave_is w w' a (answer_at held w.at w.index) tells in
      let (key, value, ends, inside) = fits_in w.part.held w.at w'.at a is in
      let (_, right) = attribute_here held w.at w.index w'.at answer in
      record {
        answer = answer;
        is = is;
        part = ap (λ (r : Run). r.held.now) part;
        index = index;
        key = key;
        value = value;
        ends = ends;
        inside = inside;
        right = ap (λ t. suits t (length (value_part a.value).now)) is.type ∙ ap (suits (le (part_of held (type_at held w.at) 1))) value ∙ right;
      }

  pub gave_at : (B : List ℕ) (at n : ℕ) → held ≡ B → w.at ≡ at → w.index ≡ n → Gave w w' a B at n
  gave_at B at n part place index =
      subst (Gave w w' a B at) index (subst (λ p. Gave w w' a B p w.index) place (subst (λ b. Gave w w' a b w.at w.index) part gave_here))

-- one that gave none, or a fault
module _ (w w' : AttributeReader) (B : List ℕ) (at n : ℕ) (part : w.part.held.now ≡ B) (place : w.at ≡ at) (index : w.index ≡ n) where
  answer : Answer
  answer = answer_at w.part.held.now w.at w.index

  same : answer ≡ answer_at B at n
  unfolding answer
  same = ap (λ b. answer_at b w.at w.index) part ∙ ap (λ p. answer_at B p w.index) place ∙ ap (answer_at B at) index

  pub gave_ended : Tells w (Ok None) w' (answer_at w.part.held.now w.at w.index) → answer_at B at n ≡ ended
  unfolding answer
  gave_ended tells = sym same ∙ gave_none w w' answer tells

  pub gave_refusal : (f : Fault) → Tells w (Err f) w' (answer_at w.part.held.now w.at w.index) → answer_at B at n ≡ refusal (report f)
  unfolding answer
  gave_refusal f tells = sym same ∙ refused w w' f answer tells

-- n attributes are read, and the next begins at a place
pub record Reading (B : List ℕ) (n at : ℕ) : Type 0 where
  pub few : n ≤ length (whole_walk B).0
  pub starts : (whole_walk B).0 ≡ take n (whole_walk B).0 ++ (walk B (length B - n) at n).0
  pub last : (whole_walk B).1 ≡ (walk B (length B - n) at n).1

module _ (B : List ℕ) where
  abbrev pub all : List ℕ
  all = (whole_walk B).0

  pub reading_first : Reading B 0 0
  reading_first =
      let same : length B ≡ length B - 0 = omega arith in
      record { few = omega arith; starts = ap (λ k. (walk B k 0 0).0) same; last = ap (λ k. (walk B k 0 0).1) same }

  module _ (n at : ℕ) (so_far : Reading B n at) where
    -- one more is read
    pub reading_more : (e : ℕ) → n ≤ at → answer_at B at n ≡ attribute e → Reading B (n + 1) e × (take (n + 1) all ≡ take n all ++ at ∷ [])
    unfolding walk
    reading_more e before is =
        let (more, _) = attribute_here B at n e is in
        let m = length B - (n + 1) in
        let further = walk B m e (n + 1) in
        let turn : length B - n ≡ suc m = omega (arith, more, before) in
        let step : walk B (length B - n) at n ≡ (at ∷ further.0, further.1) = ap (λ k. walk B k at n) turn ∙ ap (going_on at (λ e. walk B m e (n + 1))) is in
        let front = take n all in
        let whole : all ≡ (front ++ at ∷ []) ++ further.0 = so_far.starts ∙ ap (λ w. front ++ w.0) step ∙ sym (append_assoc front (at ∷ []) further.0) in
        let long : length (front ++ at ∷ []) ≡ n + 1 = length-append front (at ∷ []) ∙ ap (λ k. k + 1) (length-take-le n all so_far.few) in
        let taken : take (n + 1) all ≡ front ++ at ∷ [] = ap (take (n + 1)) whole ∙ take_at (front ++ at ∷ []) further.0 (n + 1) long in (
          record {
            few = omega (arith, long, ap length whole, length-append (front ++ at ∷ []) further.0);
            starts = whole ∙ ap (λ xs. xs ++ further.0) (sym taken);
            last = so_far.last ∙ ap (λ w. w.1) step;
          },
          taken,
        )

    -- no more are read
    stopped : (answer : Answer) → ((further : ℕ → List ℕ × Answer) → going_on at further answer ≡ ([], answer)) → answer_at B at n ≡ answer → (k : ℕ) → walk B k at n ≡ ([], answer)
    unfolding walk
    stopped answer ends is zero = ap (λ a. ([], a)) is
    stopped answer ends is (suc k) = ap (going_on at (λ e. walk B k e (n + 1))) is ∙ ends (λ e. walk B k e (n + 1))

    done : (answer : Answer) → ((further : ℕ → List ℕ × Answer) → going_on at further answer ≡ ([], answer)) → answer_at B at n ≡ answer → (take n all ≡ all) × (length all ≡ n) × ((whole_walk B).1 ≡ answer)
    done answer ends is =
        let none = stopped answer ends is (length B - n) in
        let front : all ≡ take n all = so_far.starts ∙ ap (λ w. take n all ++ w.0) none ∙ append-nil (take n all) in
        (sym front, ap length front ∙ length-take-le n all so_far.few, so_far.last ∙ ap (λ w. w.1) none)

    pub reading_ended : answer_at B at n ≡ ended → (take n all ≡ all) × (length all ≡ n) × ((whole_walk B).1 ≡ ended)
    reading_ended is = done ended (λ further. refl) is

    pub reading_refused : (x : Report) → answer_at B at n ≡ refusal x → (take n all ≡ all) × (length all ≡ n) × ((whole_walk B).1 ≡ refusal x)
    reading_refused x is = done (refusal x) (λ further. refl) is

-- what comes of a reading that ended
pub read_so : (B : List ℕ) (n : ℕ) (fault : AwdFault) → length (whole_walk B).0 ≡ n → fault ≡ fault_in (whole_walk B).1 → record { count = n; fault = fault } ≡ reading_of B
read_so B n fault many why = cc

-- the attributes that are read are written
abbrev pub WrittenSo : List ℕ → ℕ → List AwdAttribute → List AwdAttribute → Type 0
WrittenSo B n before now = now ≡ over (map (attribute_code B) (take n (whole_walk B).0)) before

module _ (B : List ℕ) (n at : ℕ) (before now : List AwdAttribute) (a : AwdAttribute) (so_far : WrittenSo B n before now) (few : n ≤ length (whole_walk B).0) (taken : take (n + 1) (whole_walk B).0 ≡ take n (whole_walk B).0 ++ at ∷ []) (is : a ≡ attribute_code B at) where
  abbrev told : List AwdAttribute
  told = map (attribute_code B) (take n (whole_walk B).0)

  many : length told ≡ n
  many = length-map (take n (whole_walk B).0) (attribute_code B) ∙ length-take-le n (whole_walk B).0 few

  one_more : map (attribute_code B) (take (n + 1) (whole_walk B).0) ≡ told ++ a ∷ []
  one_more = ap (map (attribute_code B)) taken ∙ map_push (attribute_code B) (take n (whole_walk B).0) at ∙ ap (λ y. told ++ y ∷ []) (sym is)

  pub written_next : n < length before → WrittenSo B (n + 1) before (set now n a)
  written_next room =
      ap (λ xs. set xs n a) so_far ∙ ap (λ k. set (over told before) k a) (sym many) ∙ over_more told before a (omega (arith, many)) ∙ ap (λ xs. over xs before) (sym one_more)

  pub written_past : length before ≤ n → WrittenSo B (n + 1) before now
  written_past full = so_far ∙ over_full told before a (omega (arith, many)) ∙ ap (λ xs. over xs before) (sym one_more)
