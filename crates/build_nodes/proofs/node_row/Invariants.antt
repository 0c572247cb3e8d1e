-- The loop's invariant: out has the row's cells below c, and its own from c on. Assumes nothing.
use Rattle.build_products.specs.Columns.{transposed}
use Rattle.build_nodes.specs.Steps.{next_entry}
use Rattle.rules.proofs.FilledList.{Filled}
use Rattle.build_nodes.proofs.node_row.Given as goal

abbrev pub invariant-loop-c : goal.invariant-loop-c
invariant-loop-c l = Filled l.c (next_entry l.m (transposed l.m l.previous) l.r) l.fn.out l.out
