use Rattle.awd_session.specs.View.{view}
use Rattle.awd_session.proofs.Asked.{Going}
use Rattle.awd_codes.proofs.listings.take_all.Given as goal

-- a block is taken at each turn
abbrev pub invariant-loop : goal.invariant-loop
invariant-loop g l = Going (view l.initial.session) l.counter (view l.session)
