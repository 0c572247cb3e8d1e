-- Each buffer that the level writes holds its derivative of the axes before this one. Assumes nothing.
use Rattle.query_levels.specs.Levels.{level_number}
use Rattle.query_axes.proofs.AxesLoop.{Run, cell}
use Rattle.query_axes.proofs.eval_axes.Given as goal

abbrev pub invariant-loop-axis : goal.invariant-loop-axis
invariant-loop-axis l =
    Run (cell l.path.order l.path.segments l.path.inv_ds l.coeffs l.at.segment l.at.tau.0) (level_number l.level) l.axis l.initial.buffers l.buffers
