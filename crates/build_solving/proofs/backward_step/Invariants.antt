-- The loop's invariant: y has the step's cells below i, and its own from i on. Assumes nothing.
use Rattle.build_solving.specs.Steps.{backward_cell}
use Rattle.rules.proofs.FilledList.{Filled}
use Rattle.build_solving.proofs.backward_step.Given as goal

abbrev pub invariant-loop-i : goal.invariant-loop-i
invariant-loop-i l = Filled l.i (backward_cell l.m l.matrix.entries.now l.fn.y l.k) l.fn.y l.y
