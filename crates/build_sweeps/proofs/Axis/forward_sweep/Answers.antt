use Rattle.std.proofs.Common.{◌≡◌, ◌+◌, ◌-◌, suc, List, Float, sym, ap, ◌∙◌, le_trans, add-one, arith}
use lib.Seq.{length-take-le}
use Rattle.law_lists.proofs.Lists.{part_inside}
use Rattle.law_lists.proofs.Places.{next_part}
use Rattle.law_lists.proofs.PartedList.{none, step, part_at}
use Rattle.rules.specs.Solve.{solve, node_factors}
use Rattle.rules.specs.Build.{dy}
use Rattle.rules.proofs.Build.{length-solved_side}
use Rattle.build_sides.proofs.Sides.{solved_is}
use Rattle.build_sweeps.specs.OfAxis.{points_of}
use Rattle.build_sweeps.proofs.Points.{points_dy}
use Rattle.build_sweeps.proofs.Axis.forward_sweep.Goals as goal

pub loop-i-init : goal.loop-i-init
loop-i-init c =
    let self = c.args.self.now in
    let tables = self.nodes.now.tables.now in
    let points = self.points in
    record {
      done = none tables.m _ c.args.solved.now (length-solved_side tables.m self.nodes.now.n _ _ _);
      before =
          points_dy self.nodes.now.n points.axes points.axis points.waypoints.now 0 (omega arith) ∙ sym c.dy-dy_prev.ensures;
      room = length-take-le tables.m _ tables.few;
    }

pub loop-i-preserved : goal.loop-i-preserved
loop-i-preserved c =
    let self = c.args.self.now in
    let m = self.nodes.now.tables.now.m in
    let n = self.nodes.now.n in
    let i = c.loop-i.i in
    let inv = c.loop-i.invariant in
    let w : List Float = points_of n self.points in
    let points = self.points in
    let next : dy w (suc i) ≡ c.dy-dy_next.result =
    rw add-one at (points_dy n points.axes points.axis points.waypoints.now (i + 1) (omega arith) ∙ sym c.dy-dy_next.ensures) in
    let side = c.full_side_with.ensures w inv.before next (λ q. part_at inv.done (i - 1) (omega arith)) in
    record {
      done =
          rw c.solve_node.ensures
          (step inv.done
          (ap (solve m (node_factors m i)) side
          ∙ sym (solved_is m n w _ _ i))
          (rw next_part (le_trans (part_inside m c.loop-i-test.true) c.requires)));
      before = rw add-one next;
      room = omega arith;
    }
