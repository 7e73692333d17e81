use Rattle.std.proofs.Common.{◌≡◌, true, leb, List, [], ◌∷◌, map, Some, None, Option, refl, ap, ◌∙◌, sym}
use Rattle.std.specs.Prelude.{is_some, unwrap_or}
use Rattle.std.proofs.lemmas.Bool.{false≢true}
use Rattle.awd_fault.specs.declared.Cause.{Cause}
use Rattle.awd_fault.specs.declared.Cause.TheVariants as cause
use Rattle.awd_fault.specs.declared.Fault.{Fault}
use Rattle.awd_fault.specs.Faults.{cause_number, layer_number, report}
use Rattle.awd_roster.specs.declared.record.Record.{Record}
use Rattle.awd_calls.specs.declared.calls.Call.{Call}
use Rattle.awd_session.specs.State.{State}
use Rattle.awd_history.specs.Histories.{reached, answers}
use Rattle.awd_history.specs.Calls.{after}
use Rattle.awd_codes.specs.declared.calls.AwdCall.{AwdCall}
use Rattle.awd_codes.specs.declared.records.AwdFault.{AwdFault}
use Rattle.awd_codes.specs.declared.records.AwdBlock.{AwdBlock}
use Rattle.awd_codes.specs.Records.{fault_code, no_name, block_code}
use Rattle.awd_codes.specs.Calls.{call_of, answer_code}
use Rattle.awd_codes.specs.Runs.{told, left, led, answered}
use Rattle.awd_codes.specs.Laws.{Stand}
use Rattle.awd_codes.proofs.laws.code_laws.Goals as goal

led_as : (s : State) (cs : List AwdCall) (calls : List Call) → Stand cs calls → led s cs ≡ reached s calls
led_as s [] [] is = refl
led_as s [] (x ∷ calls) is = absurd (cc is)
led_as s (c ∷ cs) [] is = absurd (cc is)
led_as s (c ∷ cs) (x ∷ calls) is =
    let head : call_of c ≡ Some x = cc is in
    let rest : Stand cs calls = cc is in
    ap (λ o. led (left o s) cs) head ∙ led_as (after x s) cs calls rest

answered_as : (s : State) (cs : List AwdCall) (calls : List Call) → Stand cs calls → answered s cs ≡ map (λ a. answer_code a.1) (answers s calls)
answered_as s [] [] is = refl
answered_as s [] (x ∷ calls) is = absurd (cc is)
answered_as s (c ∷ cs) [] is = absurd (cc is)
answered_as s (c ∷ cs) (x ∷ calls) is =
    let head : call_of c ≡ Some x = cc is in
    let rest : Stand cs calls = cc is in
    ap (λ o. told o s ∷ answered (left o s) cs) head ∙ ap (λ xs. told (Some x) s ∷ xs) (answered_as (after x s) cs calls rest)

-- every cause has a number from 1 on
some_number : (x : Cause) → leb 1 (cause_number x) ≡ true
some_number cause.AlreadyOpen = refl
some_number _ = refl

-- a value that may be missing is told by itself, or 0, and by whether it is there
same_option : {A : Type 0} (none : A) (o p : Option A) → unwrap_or o none ≡ unwrap_or p none → is_some o ≡ is_some p → o ≡ p
same_option none None None value there = refl
same_option none None (Some y) value there = absurd (cc there)
same_option none (Some x) None value there = absurd (cc there)
same_option none (Some x) (Some y) value there = ap Some value

same_report : (f g : Fault) → fault_code (report f) ≡ fault_code (report g) → report f ≡ report g
same_report f g is =
    let index = same_option 0 f.index g.index (ap (λ (x : AwdFault). x.index) is) (ap (λ (x : AwdFault). x.has_index) is) in
    let cause : cause_number f.cause ≡ cause_number g.cause = ap (λ (x : AwdFault). x.cause) is in
    let place : f.place ≡ g.place = ap (λ (x : AwdFault). x.place) is in
    let block : f.block ≡ g.block = ap (λ (x : AwdFault). x.block) is in
    let layer : layer_number f.layer ≡ layer_number g.layer = ap (λ (x : AwdFault). x.layer) is in
    cc

same_block : (r q : Record) → block_code r ≡ block_code q → r ≡ q
same_block r q is =
    let length : (unwrap_or r.name no_name).length ≡ (unwrap_or q.name no_name).length = ap (λ (x : AwdBlock). x.name_length) is in
    let start : (unwrap_or r.name no_name).place ≡ (unwrap_or q.name no_name).place = ap (λ (x : AwdBlock). x.name_place) is in
    let span : unwrap_or r.name no_name ≡ unwrap_or q.name no_name = λ k. record { place = start k; length = length k } in
    let name : r.name ≡ q.name = same_option no_name r.name q.name span (ap (λ (x : AwdBlock). x.has_name) is) in
    let parent : r.parent ≡ q.parent = same_option 0 r.parent q.parent (ap (λ (x : AwdBlock). x.parent) is) (ap (λ (x : AwdBlock). x.has_parent) is) in
    let id : r.id ≡ q.id = ap (λ (x : AwdBlock). x.id) is in
    let space : r.namespace ≡ q.namespace = ap (λ (x : AwdBlock). x.name_space) is in
    let kind : r.kind ≡ q.kind = ap (λ (x : AwdBlock). x.kind) is in
    let place : r.place ≡ q.place = ap (λ (x : AwdBlock). x.place) is in
    let size : r.size ≡ q.size = ap (λ (x : AwdBlock). x.size) is in
    λ k. record { id = id k; namespace = space k; kind = kind k; place = place k; size = size k; parent = parent k; name = name k }

pub returns : goal.returns
returns c =
    record {
      led = led_as;
      answered = answered_as;
      refused = λ f none. false≢true (sym (ap (leb 1) none) ∙ some_number f.cause);
      faults = λ f g is. c.number_laws.ensures.numbers.faults f g (same_report f g is);
      blocks = same_block;
    }
