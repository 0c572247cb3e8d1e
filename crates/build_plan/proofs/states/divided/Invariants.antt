-- After k turns y is x divided k times.
use Rattle.std.proofs.Common.{◌≡◌}
use Rattle.rules.specs.Build.{divided}
use Rattle.build_plan.proofs.states.divided.Given as goal

abbrev pub invariant-loop-k : goal.invariant-loop-k
invariant-loop-k l = l.y ≡ divided l._k l.x l.by
