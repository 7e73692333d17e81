-- Streams that were read, and then judged.
use Rattle.std.proofs.Common.{◌≡◌, ℕ, ◌+◌, ◌-◌, List, Ok, Option, refl, arith}
use Rattle.awd_source.specs.Bytes.{part}
use Rattle.awd_block_fault.specs.declared.FieldFault.{FieldFault}
use Rattle.awd_format.specs.Shapes.{measured, tested, read_of}
use Rattle.awd_geometry.specs.Streams.{stream}
use Rattle.awd_geometry.specs.Flaws.{streams_flaw}
use Rattle.awd_geometry.specs.SubGeometries.{streams}

pub streams-judged : (width total : ℕ) (B : List ℕ) (at end e : ℕ) → Ok e ≡ read_of (measured total (stream width)) B at end → e ≡ at + total
    → (o : Option FieldFault) → o ≡ streams_flaw width (part B at total) → tested at e o ≡ read_of (streams width total) B at end
streams-judged width total B at end e is behind o flaw =
    let n : e - at ≡ total = omega arith in
    rw (flaw, ← is, n) refl
