-- The loop's invariant: out has the first j columns solved, and its own cells from there on. Assumes nothing.
use Rattle.rules.specs.Solve.{solve, column}
use Rattle.law_lists.proofs.PartedList.{Parted}
use Rattle.build_products.specs.Columns.{transposed}
use Rattle.build_forward.specs.Steps.{factors_of}
use Rattle.build_solving.proofs.solve_matrix.Given as goal

abbrev pub invariant-loop-j : goal.invariant-loop-j
invariant-loop-j l = Parted l.m l.j (λ i. solve l.m (factors_of l.matrix) (column l.m (transposed l.m l.c) i)) l.fn.out l.out
