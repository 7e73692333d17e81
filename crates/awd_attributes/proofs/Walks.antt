-- What a walk over user attributes has met, out of what the reader answers each time.
use Rattle.std.proofs.Common.{◌≡◌, ℕ, ◌+◌, Bool, true, false, cond, leb, List, ◌++◌, length, Some, Ok, Err, Result, sym, refl, ap, ◌∙◌, subst, zero-add, arith, length-append}
use Rattle.std.proofs.lemmas.Bool.{leb-false}
use Rattle.awd_fault.specs.declared.Fault.{Fault}
use Rattle.awd_fault.specs.Faults.{Report, report}
use Rattle.awd_block_fault.specs.declared.EntryFault.{EntryFault}
use Rattle.awd_block_fault.specs.declared.FieldFault.{FieldFault}
use Rattle.awd_block_fault.specs.declared.BlockFault.TheVariants.{Entry}
use Rattle.awd_block_fault.specs.Faults.{in_entry, in_block}
use Rattle.awd_format.specs.Runs.{FirstFault}
use Rattle.awd_format.specs.Sets.{Stands, Counted, Reads}
use Rattle.awd_format.specs.Shapes.{SetOf, entry_of}
use Rattle.awd_format.proofs.SetLaws.{counted-push}
use Rattle.awd_format.proofs.ShapeLaws.{shape-kind}
use Rattle.awd_format.proofs.Standing.{stands-more}
use Rattle.awd_attributes.specs.declared.attribute.Attribute.{Attribute}
use Rattle.awd_attributes.specs.declared.reader.AttributeReader.{AttributeReader}
use Rattle.awd_attributes.specs.Attributes.{user}
use Rattle.awd_attributes.specs.Reader.{Answer, ended, refusal, attribute, judged, answer_at, Tells}
use Rattle.awd_attributes.specs.Filled.{user-filled}

module _ (w w' : AttributeReader) where
  pub gave : (a : Attribute) (ans : Answer) → Tells w (Ok (Some a)) w' ans → (ans ≡ attribute w'.at) × (w'.part ≡ w.part) × (w'.index ≡ w.index + 1)
  gave a ended (p, q) = absurd (grind arith)
  gave a (refusal x) (p, q) = absurd p
  gave a (attribute e) (p, q, r, s) = (ap attribute (sym r), q, s)

  pub refused : (f : Fault) (ans : Answer) → Tells w (Err f) w' ans → ans ≡ refusal (report f)
  refused f ended (p, q) = absurd (grind arith)
  refused f (refusal x) (p, q) = ap refusal (sym p)
  refused f (attribute e) t = absurd t.0

module _ (i : ℕ) where
  attribute-is : (b : Bool) (r : Result ℕ FieldFault) (e : ℕ) → cond b ended (judged i r) ≡ attribute e → (b ≡ false) × (r ≡ Ok e)
  attribute-is true r e is = absurd (cc is)
  attribute-is false (Ok p) e is = (refl, cc is)
  attribute-is false (Err x) e is = absurd (cc is)

  fault-is : (b : Bool) (r : Result ℕ FieldFault) (x : Report) → cond b ended (judged i r) ≡ refusal x → (y : FieldFault) × (r ≡ Err y) × (x ≡ in_block 0 (Entry (in_entry i y)))
  fault-is true r x is = absurd (cc is)
  fault-is false (Ok p) x is = absurd (cc is)
  fault-is false (Err y) x is = (y, refl, cc is)

module _ (B : List ℕ) where
  -- so many attributes fill the bytes as far as a place
  abbrev pub Walked : ℕ → ℕ → Type 0
  Walked at i = (m : List ℕ) × Counted (λ i. SetOf (user i)) 0 i m × Stands B 0 (length B) m × (at ≡ length m)

  pub walked_more : (at i e : ℕ) → Walked at i → answer_at B at i ≡ attribute e → Walked e (i + 1)
  walked_more at i e (m, c, s, is) ans =
      let w = attribute-is i (leb (length B) at) (entry_of (user i) B at (length B)) e ans in
      let more = leb-false (length B) at w.0 in
      let k = shape-kind user user-filled in
      let v = subst (Reads (SetOf (user i)) B at (length B)) w.1 (k.exact i B at (length B) (omega arith) (omega arith)) in
      let st : Stands B (0 + length m) (length B) v.0 = subst (λ p. Stands B p (length B) v.0) (is ∙ sym (zero-add (length m))) v.3 in
      let l = length-append m v.0 in
      (m ++ v.0, counted-push (λ i. SetOf (user i)) i m v.0 c v.2, stands-more B 0 (length B) m v.0 s st, omega (arith, v.1))

  pub walked-fault : (at i : ℕ) (x : Report) → Walked at i → answer_at B at i ≡ refusal x
      → (y : EntryFault) × (x ≡ in_block 0 (Entry y)) × FirstFault (λ i. entry_of (user i)) (λ i. SetOf (user i)) B 0 (length B) y
  walked-fault at i x (m, c, s, is) ans =
      let w = fault-is i (leb (length B) at) (entry_of (user i) B at (length B)) x ans in
      let p : 0 + length m ≡ at = omega arith in
      (in_entry i w.0, w.2, (m, c, s, ap (λ q. entry_of (user i) B q (length B)) p ∙ w.1))
