-- What the three calls give. Assumes nothing.
use Rattle.std.proofs.Common.{◌*◌, arith}
use Rattle.rules.specs.Solve.{node_factors}
use Rattle.law_lists.proofs.Places.{next_part}
use Rattle.law_lists.proofs.PartedList.{step}
use Rattle.build_products.proofs.Transposed.{columns_long}
use Rattle.build_factoring.proofs.Factors.{rows_below}
use Rattle.build_nodes.specs.NodeLists.{node_solved}
use Rattle.build_nodes.proofs.Nodes.{lent_length, solved_node, solved_parts}
use Rattle.build_nodes.proofs.factor_node.Goals as goal

pub invariant_of-factored : goal.invariant_of-factored
invariant_of-factored c = record {
  entries_length = omega arith;
  rows_length = omega arith;
  rows_below = λ i h. rw c.factor.ensures.1 (rows_below c.args.tables.now.m _ i (omega arith));
}

pub solve_matrix-requires : goal.solve_matrix-requires
solve_matrix-requires c =
    let mm = c.args.tables.now.m * c.args.tables.now.m in
    (columns_long c.args.tables.now.holds_c, lent_length (c.args.i * mm) mm c.args.solved.now (omega (arith, next_part mm c.args.i)))

pub returns : goal.returns
unfolding node_factors node_solved
returns c =
    let m = c.args.tables.now.m in
    let node = c.node_entries.ensures in
    let made = c.factor.ensures in
    let is = solved_node m c.args.i _ _ _ _ node made.0 made.1 c.args.tables.now.holds_c.is c.solve_matrix.ensures in (
      rw node at made.0,
      rw node at made.1,
      (step (solved_parts m c.requires.3) is c.requires.2).is,
    )
