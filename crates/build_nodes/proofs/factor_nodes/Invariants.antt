-- The loop's invariant: the first i nodes are done, each list has their parts and its own cells from there on. Assumes nothing.
use Rattle.std.proofs.Common.{◌*◌}
use Rattle.rules.specs.Solve.{node_factors, solved_c_of}
use Rattle.law_lists.proofs.PartedList.{Parted}
use Rattle.build_products.specs.Columns.{transposed}
use Rattle.build_nodes.proofs.factor_nodes.Given as goal

abbrev pub invariant-loop-i : goal.invariant-loop-i
invariant-loop-i l =
    Parted (l.m * l.m) l.i (λ j. (node_factors l.m j).entries) l.fn.entries l.entries
    × Parted l.m l.i (λ j. (node_factors l.m j).rows) l.fn.rows l.rows
    × Parted (l.m * l.m) l.i (λ j. transposed l.m (solved_c_of l.m j)) l.fn.solved l.solved
