-- What edits leave at each place. Assumes nothing.
use Rattle.std.specs.Prelude.{◌≡◌, ℕ, cond, List, length, Some, None, nat_lt, slice_index}
use Rattle.std.specs.Option.{unwrap_or}
use Rattle.awd_source.specs.Bytes.{byte_at}
use Rattle.awd_edits.specs.declared.edit.Edit.{Edit}
use Rattle.awd_edits.specs.Overlay.{overlay, latest}

-- of any bytes and any edits laid over them
pub record OverlayLaws : Type 0 where
  -- there are as many bytes as before
  pub same_length : (B : List ℕ) (es : List Edit) → length (overlay B es) ≡ length B
  -- at each place stands what the latest edit that covers it lays there, and where none does the byte of before
  pub latest_wins : (B : List ℕ) (es : List Edit) (at : ℕ)
      → byte_at (overlay B es) at ≡ cond (nat_lt at (length B)) (Some (unwrap_or (latest es at) (slice_index B at))) None
