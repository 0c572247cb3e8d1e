-- The loop's invariant: of any matrix that was done up to row i, row i is done in the columns before j. Assumes nothing.
use Rattle.std.proofs.Common.{◌≡◌, ◌+◌, ◌*◌, List, length}
use lib.Ieee.{Float}
use Rattle.rules.specs.Floats.{◌⊗◌}
use Rattle.rules.specs.Solve.{entry}
use Rattle.build_factoring.proofs.Elimination.{row_done}
use Rattle.build_factoring.proofs.eliminate_row.Given as goal

abbrev pub invariant-loop-j : goal.invariant-loop-j
invariant-loop-j l =
    (b : List Float) → length b ≡ l.m * l.m → l.multiplier ≡ entry l.m b l.i l.k ⊗ l.reciprocal
    → l.initial.a ≡ row_done l.m l.k l.reciprocal b l.i (l.k + 1) → l.a ≡ row_done l.m l.k l.reciprocal b l.i l.j
