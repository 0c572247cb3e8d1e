-- The block is laid on up to place j. Assumes nothing.
use mathlib.Core.Path.{◌≡◌}
use Rattle.sheet_puts.proofs.Puts.{filled}
use Rattle.sheet_puts.proofs.repeat.Given as goal

abbrev pub invariant-loop-j : goal.invariant-loop-j
invariant-loop-j l = l.out ≡ filled l.fn.out l.at l.end l.n l.j
