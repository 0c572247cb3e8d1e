-- The buffer has the coefficients of the first axes, and its own cells behind them.
use Rattle.std.proofs.Common.{◌+◌, ◌*◌}
use Rattle.law_lists.proofs.PartedList.{Parted}
use Rattle.build_filling.specs.AllAxes.{axis_table}
use Rattle.build_filling.proofs.fill_axes.Given as goal

abbrev pub invariant-loop-axis : goal.invariant-loop-axis
invariant-loop-axis l = Parted ((l.plan.n + 1) * (2 * l.plan.m + 2)) l.axis (axis_table l.plan) l.initial.coeffs l.coeffs
