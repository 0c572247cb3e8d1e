-- The loop's invariant: out has the result's cells below i, and its own from i on. Assumes nothing.
use Rattle.std.proofs.Common.{get_or}
use Rattle.rules.specs.Floats.{◌!◌}
use Rattle.rules.proofs.FilledList.{Filled}
use Rattle.build_forward.proofs.Factored.exchange_rows.Given as goal

abbrev pub invariant-loop-i : goal.invariant-loop-i
invariant-loop-i l = Filled l.i (λ j. l.b ! get_or l.self.rows.now j 0) l.fn.out l.out
