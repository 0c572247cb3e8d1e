-- The loop's invariant: the first k steps are made. Assumes nothing.
use Rattle.std.proofs.Common.{◌≡◌}
use Rattle.rules.specs.Solve.{factor_steps}
use Rattle.build_factoring.proofs.factor.Given as goal

abbrev pub invariant-loop-k : goal.invariant-loop-k
invariant-loop-k l = (l.a ≡ (factor_steps l.m l.fn.a l.k).entries) × (l.rows ≡ (factor_steps l.m l.fn.a l.k).rows)
