use Rattle.std.proofs.Common.{◌≤◌, length, map}
use Rattle.awd_session.specs.State.{records_of}
use Rattle.awd_session.specs.View.{view}
use Rattle.awd_codes.specs.Records.{block_code}
use Rattle.awd_codes.proofs.Written.{Written}
use Rattle.awd_codes.proofs.listings.write_blocks.Given as goal

-- the first blocks are written
abbrev pub invariant-loop-number : goal.invariant-loop-number
invariant-loop-number g l =
    let told = map block_code (records_of (view l.session)) in
    record {
      within : l.number ≤ length told;
      written : Written told l.initial.blocks l.number l.blocks;
    }
