-- The loop's invariant: `best` is the pivot's row of the rows from k to before `next`. Assumes nothing.
use Rattle.std.proofs.Common.{◌≡◌, suc, ◌-◌, ◌≤◌, ◌<◌}
use Rattle.rules.specs.Solve.{pivot_row}
use Rattle.build_pivots.proofs.pivot_row.Given as goal

abbrev pub invariant-loop-next : goal.invariant-loop-next
invariant-loop-next l = (l.k ≤ l.best) × (l.best < l.next) × (l.best ≡ pivot_row l.m l.a l.k (l.next - suc l.k))
