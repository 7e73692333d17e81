-- The numbers tell causes, layers and faults apart, as one record. Assumes nothing.
use Rattle.std.specs.Prelude.{◌≡◌}
use Rattle.awd_fault.specs.declared.Cause.{Cause}
use Rattle.awd_fault.specs.declared.Layer.{Layer}
use Rattle.awd_fault.specs.declared.Fault.{Fault}
use Rattle.awd_fault.specs.Faults.{cause_number, layer_number, report}

pub record NumberLaws : Type 0 where
  -- no two causes have one number
  pub causes : (x y : Cause) → cause_number x ≡ cause_number y → x ≡ y
  -- no two layers
  pub layers : (x y : Layer) → layer_number x ≡ layer_number y → x ≡ y
  -- two faults of which the same is told are the same
  pub faults : (x y : Fault) → report x ≡ report y → x ≡ y
