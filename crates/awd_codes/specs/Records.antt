-- Faults, headers and records of blocks as plain numbers. Assumes nothing.
use Rattle.std.specs.Prelude.{false, is_some, Ok, Err, Result, unwrap_or}
use Rattle.awd_fault.specs.Faults.{Report}
use Rattle.awd_header.specs.declared.Header.{Header}
use Rattle.awd_roster.specs.declared.record.Record.{Record}
use Rattle.awd_roster.specs.declared.record.Span.{Span}
use Rattle.awd_codes.specs.declared.records.AwdFault.{AwdFault}
use Rattle.awd_codes.specs.declared.records.AwdHeader.{AwdHeader}
use Rattle.awd_codes.specs.declared.records.AwdBlock.{AwdBlock}

-- no refusal
abbrev pub no_fault : AwdFault
no_fault = record { place = 0; block = 0; index = 0; cause = 0; layer = 0; has_index = false }

-- a refusal by its numbers
abbrev pub fault_code : Report → AwdFault
fault_code f =
    record { place = f.place; block = f.block; index = unwrap_or f.index 0; cause = f.cause; layer = f.layer; has_index = is_some f.index }

-- what comes of a call that gives nothing but its acceptance
abbrev pub outcome_code : {A : Type 0} → Result A Report → AwdFault
outcome_code (Ok x) = no_fault
outcome_code (Err f) = fault_code f

-- no header
abbrev pub no_header : AwdHeader
no_header = record { flags = 0; version = 0; revision = 0 }

-- what a header says
abbrev pub header_code : Header → AwdHeader
header_code h = record { flags = h.flags; version = h.version; revision = h.revision }

-- no name
abbrev pub no_name : Span
no_name = record { place = 0; length = 0 }

-- no block
abbrev pub no_block : AwdBlock
no_block =
    record {
      place = 0;
      name_place = 0;
      id = 0;
      size = 0;
      parent = 0;
      name_length = 0;
      name_space = 0;
      kind = 0;
      has_parent = false;
      has_name = false;
    }

-- what a block tells
abbrev pub block_code : Record → AwdBlock
block_code r =
    record {
      place = r.place;
      name_place = (unwrap_or r.name no_name).place;
      id = r.id;
      size = r.size;
      parent = unwrap_or r.parent 0;
      name_length = (unwrap_or r.name no_name).length;
      name_space = r.namespace;
      kind = r.kind;
      has_parent = is_some r.parent;
      has_name = is_some r.name;
    }
