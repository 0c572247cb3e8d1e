-- The loop's invariant: the rows are exchanged in the columns before j. Assumes nothing.
use Rattle.std.proofs.Common.{◌≡◌}
use Rattle.rules.specs.Solve.{matrix}
use Rattle.build_pivots.proofs.Exchange.{exchanged_to}
use Rattle.build_pivots.proofs.exchange_entries.Given as goal

abbrev pub invariant-loop-j : goal.invariant-loop-j
invariant-loop-j l = l.a ≡ matrix l.m l.m (exchanged_to l.m l.fn.a l.k l.p l.j)
