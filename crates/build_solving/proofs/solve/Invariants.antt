-- The loop's invariant: y is the result after the last rows, from row k on. Assumes nothing.
use Rattle.std.proofs.Common.{◌≡◌, ◌-◌}
use Rattle.rules.specs.Solve.{backward}
use Rattle.build_forward.specs.Steps.{factors_of}
use Rattle.build_solving.proofs.solve.Given as goal

abbrev pub invariant-loop-k : goal.invariant-loop-k
invariant-loop-k l = l.y ≡ backward l.matrix.m (factors_of l.matrix) l.b (l.matrix.m - l.k)
