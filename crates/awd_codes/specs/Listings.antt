-- What comes of listing a document. Assumes nothing.
use Rattle.std.specs.Prelude.{ℕ, true, false, List, length, map, Ok, Err, Result}
use Rattle.awd_fault.specs.Faults.{Report}
use Rattle.awd_header.specs.declared.Header.{Header}
use Rattle.awd_session.specs.State.{State, fresh, open_answer, after_open, records_of, next_answer}
use Rattle.awd_session.specs.Asked.{asked}
use Rattle.awd_codes.specs.declared.listings.AwdListing.{AwdListing}
use Rattle.awd_codes.specs.declared.records.AwdBlock.{AwdBlock}
use Rattle.awd_codes.specs.Records.{fault_code, outcome_code, no_header, header_code, block_code}

-- a session over a document that was opened and asked for blocks until there is no more: there are 512 at most
abbrev pub ended : List ℕ → State
ended B = asked 512 (after_open (fresh B))

-- what an opening leads to: a refusal, or the count of the blocks and what was answered behind them
abbrev pub listing_by : List ℕ → Result Header Report → AwdListing
listing_by B (Ok h) =
    record {
      length = length B;
      count = (ended B).taken;
      fault = outcome_code (next_answer (ended B));
      header = header_code h;
      opened = true;
    }
listing_by B (Err f) = record { length = length B; count = 0; fault = fault_code f; header = no_header; opened = false }

abbrev pub listing_of : List ℕ → AwdListing
listing_of B = listing_by B (open_answer (fresh B))

-- what the blocks tell; none was taken where the opening was refused
abbrev pub blocks_of : List ℕ → List AwdBlock
blocks_of B = map block_code (records_of (ended B))
