-- The loop's invariant: out has the first r rows, and its own cells from there on. Assumes nothing.
use Rattle.law_lists.specs.Lists.{listed}
use Rattle.law_lists.proofs.PartedList.{Parted}
use Rattle.build_products.specs.Columns.{transposed}
use Rattle.build_nodes.specs.Steps.{next_entry}
use Rattle.build_nodes.proofs.node_matrix.Given as goal

abbrev pub invariant-loop-r : goal.invariant-loop-r
invariant-loop-r l = Parted l.m l.r (λ i. listed l.m (next_entry l.m (transposed l.m l.previous) i)) l.fn.out l.out
