-- The list has the solved right sides of the first i nodes, and its own cells behind them.
use Rattle.std.proofs.Common.{◌≡◌, length}
use Rattle.law_lists.proofs.PartedList.{Parted}
use Rattle.rules.specs.Build.{dy}
use Rattle.build_sweeps.specs.OfAxis.{points_of, solved_sides}
use Rattle.build_sweeps.proofs.Axis.forward_sweep.Given as goal

abbrev pub invariant-loop-i : goal.invariant-loop-i
invariant-loop-i l =
    record {
      done : Parted l.self.nodes.now.tables.now.m l.i (solved_sides l.self) l.initial.solved l.solved;
      before : dy (points_of l.self.nodes.now.n l.self.points) l.i ≡ l.dy_prev;
      room : length l.side ≡ l.self.nodes.now.tables.now.m;
    }
