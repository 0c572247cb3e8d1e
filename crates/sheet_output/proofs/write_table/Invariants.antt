-- Behind the first line, those of the first axes are written. Assumes nothing.
use Rattle.law_lists.specs.Lists.{joined}
use Rattle.sheet_bits.specs.Page.{Wrote}
use Rattle.sheet_lines.specs.Output.{axis_lines}
use Rattle.sheet_output.proofs.write_table.Given as goal

abbrev pub invariant-loop-axis : goal.invariant-loop-axis
invariant-loop-axis l = Wrote l.initial.page (joined l.axis (axis_lines l.path l.coeffs)) l.page
