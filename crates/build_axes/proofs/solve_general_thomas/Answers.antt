-- The matrices that differ are factored, which are those of all nodes.
use Rattle.std.proofs.Common.{◌≡◌, ◌≤◌}
use Rattle.theorem_pivots.specs.Repeating.{distinct}
use Rattle.build_nodes.specs.NodeLists.{Room}
use Rattle.build_sweeps.proofs.AllNodes.{room_for, node_factors_lem, node_solved_lem}
use Rattle.build_axes.proofs.solve_general_thomas.Goals as goal

pub invariant_of-nodes : goal.invariant_of-nodes
invariant_of-nodes c =
    let a = c.args in
    let p = a.plan.now in
    let t = c.for_order-tables.result in
    let of_m : t.m ≡ p.m = c.for_order-tables.ensures in
    let some : 1 ≤ t.m = rw of_m p.some in
    let few : t.m ≤ 3 = rw of_m p.few in
    let is : c.distinct.result ≡ distinct t.m p.n = rw of_m c.distinct.ensures in
    let room : Room t.m c.distinct.result a.entries.now a.rows.now a.solved_c.now = room_for is (rw of_m c.requires.1) in
    let (entries, rows, columns) = c.factor_nodes_with.ensures in
    record {
      few_nodes = p.few_nodes;
      factors = node_factors_lem some few is room t.holds_b.sized entries rows;
      solved = node_solved_lem some few is room t.holds_b.sized columns;
    }
