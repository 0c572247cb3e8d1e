-- The loop's invariant: y has the step's cells below i, and its own from i on. Assumes nothing.
use Rattle.build_forward.specs.Steps.{forward_cell}
use Rattle.rules.proofs.FilledList.{Filled}
use Rattle.build_forward.proofs.Factored.forward_step.Given as goal

abbrev pub invariant-loop-i : goal.invariant-loop-i
invariant-loop-i l = Filled l.i (forward_cell l.self.m l.self.entries.now l.fn.y l.k) l.fn.y l.y
