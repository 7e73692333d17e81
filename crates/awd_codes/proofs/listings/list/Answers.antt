use Rattle.std.proofs.Common.{◌≡◌, rules}
use Rattle.awd_fault.specs.Faults.{report}
use Rattle.awd_session.specs.State.{fresh}
use Rattle.awd_session.specs.View.{view}
use Rattle.awd_codes.proofs.Listed.{listed, no_blocks}
use Rattle.awd_codes.proofs.listings.list.Goals as goal

pub returns-in-Ok-clause-listing : goal.returns-in-Ok-clause-listing
returns-in-Ok-clause-listing c =
    let B = c.args.document.now in
    let s = view c.new-session.result in
    let made : s ≡ fresh B = search rules in
    listed B s made (view c.open.new.self) (view c.take_all-fault.new.session) c.in-Ok.ensures.state c.take_all-fault.ensures.state c.in-Ok.header c.count.result c.take_all-fault.result c.of.result c.in-Ok.ensures.answer c.count.ensures.taken c.take_all-fault.ensures.fault c.of.ensures

pub returns-in-Err-clause-blocks : goal.returns-in-Err-clause-blocks
returns-in-Err-clause-blocks c =
    let B = c.args.document.now in
    let s = view c.new-session.result in
    let made : s ≡ fresh B = search rules in
    no_blocks B s made (report c.in-Err.fault) c.args.blocks.now c.in-Err.ensures.answer
