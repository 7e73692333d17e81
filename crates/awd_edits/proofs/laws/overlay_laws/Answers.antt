use Rattle.awd_edits.proofs.Lays.{length_overlay}
use Rattle.awd_edits.proofs.Latest.{latest_wins}
use Rattle.awd_edits.proofs.laws.overlay_laws.Goals as goal

pub returns : goal.returns
returns c = record { same_length = length_overlay; latest_wins = latest_wins }
