use Rattle.std.proofs.Common.{◌≡◌, ◌-◌, length}
use Rattle.awd_codes.proofs.Read.{Reading, WrittenSo}
use Rattle.awd_codes.proofs.attributes.read_attributes.Given as goal

-- the first attributes are read and written, and the next begins where the reader stands
abbrev pub invariant-loop-attribute : goal.invariant-loop-attribute
invariant-loop-attribute l =
    record {
      part : l.reader.part.held.now ≡ l.part;
      at : l.reader.at ≡ l.at;
      index : l.reader.index ≡ l.count;
      read : Reading l.part l.count l.at;
      written : WrittenSo l.part l.count l.initial.attributes l.attributes;
    }

abbrev pub decreases-loop-attribute : goal.decreases-loop-attribute
decreases-loop-attribute l = length l.part - l.reader.at
