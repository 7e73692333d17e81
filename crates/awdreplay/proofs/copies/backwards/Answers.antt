use Rattle.std.proofs.Common.{◌≡◌, ◌-◌, ◌++◌, [], ◌∷◌, rules, arith}
use Rattle.awdreplay.specs.Copies.{backwards}
use Rattle.awdreplay.proofs.Shown.{listed}
use Rattle.awdreplay.proofs.copies.backwards.Goals as goal

pub loop-page-preserved : goal.loop-page-preserved
loop-page-preserved c =
    let page = c.loop-page.page in
    let pushed : c.push.new.self.items ≡ c.loop-page.list.items ++ (page - 1) ∷ [] = search rules in
    rw pushed (listed c.loop-page.list.items (backwards c.args.count) page (page - 1) (omega arith) c.loop-page.invariant)
