use Rattle.std.proofs.Common.{◌≡◌, ◌+◌, map, sym, ap, ◌∙◌, subst, rules, arith}
use Rattle.awd_fault.specs.Faults.{report}
use Rattle.awd_codes.specs.declared.attributes.AwdAttribute.{AwdAttribute}
use Rattle.awd_codes.specs.Attributes.{attribute_code, fault_in}
use Rattle.awd_codes.specs.Records.{no_fault}
use Rattle.awd_codes.specs.Writing.{over}
use Rattle.awd_codes.proofs.Read.{gave_at, gave_ended, gave_refusal, Reading, reading_more, reading_ended, reading_refused, read_so, written_next, written_past}
use Rattle.awd_codes.proofs.attributes.read_attributes.Goals as goal
use Rattle.awd_codes.proofs.attributes.read_attributes.Goals.{then-count-attributes, else-count-attributes}

pub of-read-requires-clause-suits : goal.of-read-requires-clause-suits
of-read-requires-clause-suits c =
    let l = c.loop-attribute in
    let tells = rw c.in-Ok-Some.field-0-is at c.in-Ok-Some.ensures in
    let given = gave_at l.reader c.next.new.self c.in-Ok-Some.attribute tells c.args.part.now l.at l.count l.invariant.part l.invariant.at l.invariant.index in
    given.right

pub overflow_add-at : goal.overflow_add-at
overflow_add-at c =
    let l = c.loop-attribute in
    let tells = rw c.in-Ok-Some.field-0-is at c.in-Ok-Some.ensures in
    let given = gave_at l.reader c.next.new.self c.in-Ok-Some.attribute tells c.args.part.now l.at l.count l.invariant.part l.invariant.at l.invariant.index in
    let is : c.of-read.result ≡ attribute_code c.args.part.now l.at = c.of-read.ensures l.reader.part.held c.next.new.self.at given.is ∙ ap (λ B. attribute_code B l.at) l.invariant.part in
    omega (arith, given.inside, ap (λ (r : AwdAttribute). r.value_place) is, ap (λ (r : AwdAttribute). r.value_length) is)

pub loop-attribute-preserved : goal.loop-attribute-preserved
loop-attribute-preserved c =
    let l = c.loop-attribute in
    let B = c.args.part.now in
    let w' = c.next.new.self in
    let tells = rw c.in-Ok-Some.field-0-is at c.in-Ok-Some.ensures in
    let given = gave_at l.reader w' c.in-Ok-Some.attribute tells B l.at l.count l.invariant.part l.invariant.at l.invariant.index in
    let is : c.of-read.result ≡ attribute_code B l.at = c.of-read.ensures l.reader.part.held w'.at given.is ∙ ap (λ b. attribute_code b l.at) l.invariant.part in
    let at : w'.at ≡ c.of-read.result.value_place + c.of-read.result.value_length = given.ends ∙ sym (ap (λ (r : AwdAttribute). r.value_place + r.value_length) is) in
    let (read, taken) = reading_more B l.count l.at l.invariant.read w'.at (omega (arith, l.reader.few)) given.answer in
    record {
      part = given.part;
      at = at;
      index = given.index;
      read = subst (Reading B (l.count + 1)) at read;
      written =
          elim c.if-count-attributes.branch [
            | then-count-attributes w ↦ w.attributes-is ∙ written_next B l.count l.at c.args.attributes.now l.attributes c.of-read.result l.invariant.written l.invariant.read.few taken is (omega arith)
            | else-count-attributes w ↦ w.attributes-is ∙ written_past B l.count l.at c.args.attributes.now l.attributes c.of-read.result l.invariant.written l.invariant.read.few taken is (omega arith)
          ];
    }

pub returns-in-Ok-None-clause-reading : goal.returns-in-Ok-None-clause-reading
returns-in-Ok-None-clause-reading c =
    let l = c.loop-attribute in
    let B = c.args.part.now in
    let tells = rw c.in-Ok-None.field-0-is at c.in-Ok-None.ensures in
    let stop = reading_ended B l.count l.at l.invariant.read (gave_ended l.reader c.next.new.self B l.at l.count l.invariant.part l.invariant.at l.invariant.index tells) in
    let none : c.default.result ≡ no_fault = search rules in
    read_so B l.count c.default.result stop.1 (none ∙ ap fault_in (sym stop.2))

pub returns-in-Ok-None-clause-attributes : goal.returns-in-Ok-None-clause-attributes
returns-in-Ok-None-clause-attributes c =
    let l = c.loop-attribute in
    let B = c.args.part.now in
    let tells = rw c.in-Ok-None.field-0-is at c.in-Ok-None.ensures in
    let stop = reading_ended B l.count l.at l.invariant.read (gave_ended l.reader c.next.new.self B l.at l.count l.invariant.part l.invariant.at l.invariant.index tells) in
    l.invariant.written ∙ ap (λ xs. over (map (attribute_code B) xs) c.args.attributes.now) stop.0

pub returns-in-Err-clause-reading : goal.returns-in-Err-clause-reading
returns-in-Err-clause-reading c =
    let l = c.loop-attribute in
    let B = c.args.part.now in
    let f = c.in-Err.fault in
    let stop = reading_refused B l.count l.at l.invariant.read (report f) (gave_refusal l.reader c.next.new.self B l.at l.count l.invariant.part l.invariant.at l.invariant.index f c.in-Err.ensures) in
    read_so B l.count c.of.result stop.1 (c.of.ensures ∙ ap fault_in (sym stop.2))

pub returns-in-Err-clause-attributes : goal.returns-in-Err-clause-attributes
returns-in-Err-clause-attributes c =
    let l = c.loop-attribute in
    let B = c.args.part.now in
    let f = c.in-Err.fault in
    let stop = reading_refused B l.count l.at l.invariant.read (report f) (gave_refusal l.reader c.next.new.self B l.at l.count l.invariant.part l.invariant.at l.invariant.index f c.in-Err.ensures) in
    l.invariant.written ∙ ap (λ xs. over (map (attribute_code B) xs) c.args.attributes.now) stop.0
