-- What a build is told of what was read. Assumes nothing.
use Rattle.std.specs.Prelude.{false, ℕ, ℤ}
use Rattle.std.specs.Float.{binary64}
use Rattle.std.specs.Float.Ieee.{of_int}
use Rattle.rules.specs.declared.OutOfRangeMode.TheVariants.{Error}
use Rattle.rules.specs.declared.SplineConfig.{SplineConfig}
use Rattle.rules.specs.Build.{given}
use Rattle.rules.specs.SheetAnswers.{order_of}
use Rattle.sheet_record.specs.declared.SheetNumbers.{SheetNumbers}

-- J9: "in mode Error with unmarked states"
abbrev pub config_of : ℕ → ℤ → ℤ → ℕ → ℕ → ℕ → SplineConfig
config_of order from to axes start end = record {
  order = order;
  s_min = record { 0 = of_int binary64 from };
  s_max = record { 0 = of_int binary64 to };
  out_of_range_mode = Error;
  start_state = given axes start false;
  end_state = given axes end false;
}

abbrev pub config_read : SheetNumbers → SplineConfig
config_read n = config_of (order_of n.order) n.from n.to n.axes n.start n.end
