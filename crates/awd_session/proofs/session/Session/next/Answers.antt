use Rattle.std.proofs.Common.{◌≡◌, Some, None, Ok, sym, ap, ◌∙◌, rules}
use Rattle.awd_session.specs.State.{following}
use Rattle.awd_session.specs.View.{view}
use Rattle.awd_session.proofs.Stays.{stays_same, stays_kept}
use Rattle.awd_session.proofs.Next.{answers_right, grown, stand_grown, kept_before, still-open}
use Rattle.awd_session.proofs.session.Session.next.Given.{Over}
use Rattle.awd_session.proofs.session.Session.next.Goals as goal
use Rattle.awd_session.proofs.session.Session.next.Goals.{After-add}

pub returns-in_err-block-clause-right : goal.returns-in_err-block-clause-right
returns-in_err-block-clause-right g c = answers_right c.args.self.now _ (search rules)

pub returns-in_default-clause-right : goal.returns-in_default-clause-right
returns-in_default-clause-right g c = answers_right c.args.self.now (Ok None) (search rules)

pub returns-in_err-block-clause-stays : goal.returns-in_err-block-clause-stays
returns-in_err-block-clause-stays g c = stays_same (view c.args.self.now)

pub returns-in_default-clause-stays : goal.returns-in_default-clause-stays
returns-in_default-clause-stays g c = stays_same (view c.args.self.now)

-- the block that came is the one that follows
came : (g : Over) (c : After-add g) → Ok (Some c.in-Some.block) ≡ following (view c.args.self.now)
came g c = ap Ok (sym c.in-Some.is) ∙ c.in_ok-block.ensures

pub invariant_of-self : goal.invariant_of-self
invariant_of-self g c =
    let s = c.args.self.now in
    let follows = came g (goal.at.invariant_of-self g c).After-add in
    record {
      told = s.told;
      taken = grown s c.in-Some.block follows c.add.new.self c.add.ensures;
      stand = stand_grown s c.in-Some.block follows c.add.new.self c.add.ensures;
      closed = still-open s c.in-Some.block follows;
      unedited = s.unedited;
    }

pub returns-clause-right : goal.returns-clause-right
returns-clause-right g c = answers_right c.args.self.now (Ok (Some c.count-number.result)) (search rules)

pub returns-clause-kept : goal.returns-clause-kept
returns-clause-kept g c =
    kept_before c.args.self.now c.in-Some.block (came g (goal.at.returns-clause-kept g c).After-add) c.add.new.self c.add.ensures

pub returns-clause-stays : goal.returns-clause-stays
returns-clause-stays g c =
    stays_kept _ _ (kept_before c.args.self.now c.in-Some.block (came g (goal.at.returns-clause-stays g c).After-add) c.add.new.self c.add.ensures)
