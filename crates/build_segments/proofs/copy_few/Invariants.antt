-- The first r cells hold the numbers, and the others their own.
use Rattle.rules.specs.Floats.{◌!◌}
use Rattle.rules.proofs.FilledList.{Filled}
use Rattle.build_segments.proofs.copy_few.Given as goal

abbrev pub invariant-loop-r : goal.invariant-loop-r
invariant-loop-r l = Filled l.r (λ j. l.from ! j) l.initial.to l.to
