-- From node i - 1 on the list has the nodes' numbers, and below the solved right sides.
use Rattle.std.proofs.Common.{◌≡◌, ◌*◌, ◌-◌, List, Float, take, drop, ◌++◌}
use Rattle.law_lists.specs.Lists.{joined}
use Rattle.rules.specs.Build.{solved_side}
use Rattle.build_sweeps.proofs.Back.{swept}
use Rattle.build_sweeps.proofs.NodeMatrices.back_sweep.Given as goal

abbrev pub invariant-loop-i : goal.invariant-loop-i
invariant-loop-i l =
    let m = l.self.tables.now.m in
    let n = l.self.n in
    (w start end : List Float) → take (n * m) l.initial.solved ≡ joined n (solved_side m n w start end)
    → l.solved ≡ joined n (swept m n w start end (l.i - 1)) ++ drop (n * m) l.initial.solved
