-- The parts that are lent to solving are the node's, at the place of the first node that has its matrix.
use Rattle.std.proofs.Common.{◌+◌, ◌-◌, ◌*◌, take, drop}
use Rattle.build_products.specs.Columns.{Below}
use Rattle.build_sweeps.proofs.AllNodes.{entries_inside, rows_inside, rows_part, node_below, lent_length}
use Rattle.build_sweeps.proofs.NodeMatrices.solve_node.Goals as goal

pub invariant_of-matrix : goal.invariant_of-matrix
invariant_of-matrix c =
    let self = c.args.self.now in
    let m = self.tables.now.m in
    let i = c.args.i in
    let is = c.settled-k.ensures in
    let below : Below m (take (c.settled-k.result * m + m - c.settled-k.result * m) (drop (c.settled-k.result * m) self.rows.now)) =
    rw (rows_part c.requires.0 is self.factors) (node_below m i) in
    record {
      entries_length = lent_length _ _ _ (entries_inside c.requires.0 is self.factors);
      rows_length = lent_length _ _ _ (rows_inside c.requires.0 is self.factors);
      rows_below = below;
    }
