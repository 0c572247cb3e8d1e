-- The first k cells hold the definition's numbers, and the others their own.
use Rattle.rules.specs.Floats.{◌⊗◌, ◌⊕◌}
use Rattle.rules.specs.Solve.{entry}
use Rattle.rules.proofs.FilledList.{Filled}
use Rattle.build_rhs.proofs.compute_rhs.Given as goal

abbrev pub invariant-loop-k : goal.invariant-loop-k
invariant-loop-k l = Filled l.k (λ k. entry 2 l.r k 0 ⊗ l.dy_prev ⊕ entry 2 l.r k 1 ⊗ l.dy_next) l.initial.out l.out
