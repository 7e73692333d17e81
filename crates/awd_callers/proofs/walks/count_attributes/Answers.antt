use Rattle.std.proofs.Common.{◌≡◌, ap, ◌∙◌, subst, sym, arith}
use Rattle.std.proofs.lemmas.Result.{err_from_is_err_and}
use Rattle.awd_fault.specs.Faults.{report}
use Rattle.awd_attributes.specs.Reader.{answer_at, attribute}
use Rattle.awd_attributes.proofs.Walks.{Walked, gave, refused, walked_more, walked-fault}
use Rattle.awd_callers.proofs.walks.count_attributes.Goals as goal

pub returns-in_err-next-clause-first : goal.returns-in_err-next-clause-first
returns-in_err-next-clause-first c =
    let w = c.loop-count.reader in
    let f = c.in_err-next.field-0.0 in
    let ans = rw c.loop-count.invariant.0 at (refused w c.next.new.self f _ c.in_err-next.ensures) in
    let p = err_from_is_err_and c.from_residual.result c.from_residual.ensures.1 in
    rw (p.1, p.2) (walked-fault c.args.part.now w.at w.index (report f) c.loop-count.invariant.2 ans)

pub loop-count-preserved : goal.loop-count-preserved
loop-count-preserved c =
    let w = c.loop-count.reader in
    let t = rw c.in-Some.is at c.in_ok-next.ensures in
    let w' = c.next.new.self in
    let g = gave w w' c.in-Some.field-0 _ t in
    let more = walked_more c.args.part.now w.at w.index w'.at c.loop-count.invariant.2 (subst (λ B. answer_at B w.at w.index ≡ attribute w'.at) c.loop-count.invariant.0 g.0) in
    (ap (λ r. r.held.now) g.1 ∙ c.loop-count.invariant.0, omega (arith, g.2, c.loop-count.invariant.1), subst (Walked c.args.part.now w'.at) (sym g.2) more)
