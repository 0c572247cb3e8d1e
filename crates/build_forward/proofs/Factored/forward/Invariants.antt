-- The loop's invariant: y is the right side after the first k rows. Assumes nothing.
use Rattle.std.proofs.Common.{◌≡◌}
use Rattle.rules.specs.Solve.{forward}
use Rattle.build_forward.specs.Steps.{factors_of}
use Rattle.build_forward.proofs.Factored.forward.Given as goal

abbrev pub invariant-loop-k : goal.invariant-loop-k
invariant-loop-k l = l.y ≡ forward l.self.m (factors_of l.self) l.b l.k
