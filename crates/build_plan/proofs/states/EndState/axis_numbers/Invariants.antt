-- The first r cells hold the definition's numbers, and the others their own.
use Rattle.rules.specs.Build.{boundary_number}
use Rattle.rules.proofs.FilledList.{Filled}
use Rattle.build_plan.proofs.states.EndState.axis_numbers.Given as goal

abbrev pub invariant-loop-r : goal.invariant-loop-r
invariant-loop-r l = Filled l.r (boundary_number l.axes l.inv_ds l.self.state l.self.numbers.now l.axis) l.initial.out l.out
