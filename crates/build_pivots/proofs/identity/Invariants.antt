-- The loop's invariant: the places before i are set. Assumes nothing.
use Rattle.std.proofs.Common.{◌≡◌}
use Rattle.law_lists.proofs.Filling.{filled}
use Rattle.build_pivots.proofs.identity.Given as goal

abbrev pub invariant-loop-i : goal.invariant-loop-i
invariant-loop-i l = l.rows ≡ filled l.i (λ j. j) l.fn.rows
