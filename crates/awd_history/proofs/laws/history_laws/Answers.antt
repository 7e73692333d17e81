use Rattle.awd_history.proofs.Led.{source_same, stays_open, led_on, answered_on}
use Rattle.awd_history.proofs.laws.history_laws.Goals as goal

pub returns : goal.returns
returns c = record { source = source_same; opened = stays_open; on = led_on; answers_on = answered_on }
