-- The steps of reading a block, put together.
use Rattle.std.proofs.Common.{◌≡◌, ℕ, List, length, Ok, sym, ap, refl, ◌∙◌}
use Rattle.std.proofs.lemmas.Bool.{eq-eqb}
use Rattle.awd_block_fault.specs.Faults.{field_of}
use Rattle.awd_block_fault.proofs.Passed.{unturned}
use Rattle.awd_source.specs.Fields.{bytes_at}
use Rattle.awd_format.specs.Shapes.{read_of, entry_of}
use Rattle.awd_header.specs.Widths.{Sizes, widths_of}
use Rattle.awd_roster.specs.declared.record.Record.{Record}
use Rattle.awd_blocks.specs.declared.heads.Head.{Head}
use Rattle.awd_blocks.specs.Heads.{head_of, block_header}
use Rattle.awd_blocks.specs.Blocks.{body_of, block_at}
use Rattle.awd_blocks.specs.Records.{record_of, read_block}

-- a block by its header: that was read, the body fits, and it was read to its end
module _ (flags : ℕ) (before : List Record) (B : List ℕ) (at end : ℕ) where
  -- by the header of the bytes
  ends : Ok (head_of B at).body ≡ entry_of (block_header before) B at (length B) → Ok end ≡ bytes_at (head_of B at).body (length B) (head_of B at).size
      → Ok end ≡ read_of (body_of before (widths_of flags (head_of B at).flags) (head_of B at).namespace (head_of B at).kind (head_of B at).size) B (head_of B at).body end → block_at flags before B at ≡ Ok end
  ends head fits whole = rw (unturned field_of _ (head_of B at).body (sym head), sym fits, sym whole, eq-eqb end end refl) refl

  pub block_whole : (h : Head) (w : Sizes) → h ≡ head_of B at → w ≡ widths_of flags h.flags → Ok h.body ≡ entry_of (block_header before) B at (length B)
      → Ok end ≡ bytes_at h.body (length B) h.size → Ok end ≡ read_of (body_of before w h.namespace h.kind h.size) B h.body end
      → (r : Record) → r ≡ record_of B at w.matrix h → Ok (record { told = r; behind = end }) ≡ read_block flags before B at
  block_whole h w is wide head fits whole r told =
      let w-is : w ≡ widths_of flags (head_of B at).flags = wide ∙ ap (λ (g : Head). widths_of flags g.flags) is in
      let e = ends (rw (is) at head) (rw (is) at fits) (rw (w-is, is) at whole) in
      rw (e, told, w-is, is) refl
