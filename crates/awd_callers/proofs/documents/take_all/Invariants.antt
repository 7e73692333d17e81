use Rattle.std.proofs.Common.{◌≡◌, ◌≤◌, true}
use Rattle.awd_session.specs.State.{bytes_of}
use Rattle.awd_session.specs.View.{view}
use Rattle.awd_callers.proofs.documents.take_all.Given as goal

-- the session keeps its own bytes, stays open if it was, and has taken a block at each turn
abbrev pub invariant-loop : goal.invariant-loop
invariant-loop g l =
    (bytes_of (view l.session) ≡ bytes_of (view l.initial.session)) × ((view l.initial.session).opened ≡ true → ((view l.session).opened ≡ true) × (l.counter ≤ (view l.session).taken))
