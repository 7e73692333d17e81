use Rattle.std.proofs.Common.{◌≡◌, ◌++◌, string_bytes}
use Rattle.awd_session.specs.State.{records_of}
use Rattle.awd_session.specs.View.{view}
use Rattle.awd_listing.specs.Listing.{block_lines}
use Rattle.awd_session.proofs.Asked.{Going}
use Rattle.awd_listing.proofs.add_lines.Given as goal

-- a block is taken at each turn, and the lines of those that are taken are written
abbrev pub invariant-loop : goal.invariant-loop
invariant-loop g l =
    Going (view l.initial.session) l.counter (view l.session)
    × (string_bytes l.text ≡ string_bytes l.initial.text ++ block_lines 0 (records_of (view l.session)))
