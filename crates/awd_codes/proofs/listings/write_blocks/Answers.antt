use Rattle.std.proofs.Common.{sym, ◌∙◌, arith}
use Rattle.std.proofs.lemmas.List.{set-get_or}
use Rattle.awd_session.specs.State.{records_of}
use Rattle.awd_session.specs.View.{view}
use Rattle.awd_codes.specs.Records.{block_code}
use Rattle.awd_codes.proofs.Written.{mapped_more, mapped_all}
use Rattle.awd_codes.proofs.listings.write_blocks.Goals as goal

pub loop-number-preserved : goal.loop-number-preserved
loop-number-preserved g c =
    let rs = records_of (view c.args.session.now) in
    let (more, written) =
    mapped_more block_code rs c.args.blocks.now c.loop-number.blocks c.loop-number.number c.loop-number.invariant.written c.in-Some.record c.of.result (sym c.record.ensures ∙ c.in-Some.is) c.of.ensures (omega arith) in
    record { within = omega arith; written = written }

pub returns-in_default : goal.returns-in_default
returns-in_default g c =
    let rs = records_of (view c.args.session.now) in
    set-get_or c.loop-number.blocks c.loop-number.number _
    ∙ mapped_all block_code rs c.args.blocks.now c.loop-number.blocks c.loop-number.number c.loop-number.invariant.written (sym c.record.ensures ∙ c.in_default.is) c.loop-number.invariant.within (omega arith)
