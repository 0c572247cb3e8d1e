-- The loop's invariant: the rows before i are done, and the others are as they were. Assumes nothing.
use Rattle.std.proofs.Common.{◌≡◌}
use Rattle.build_factoring.specs.Steps.{eliminated_to}
use Rattle.build_factoring.proofs.eliminate.Given as goal

abbrev pub invariant-loop-i : goal.invariant-loop-i
invariant-loop-i l = l.a ≡ eliminated_to l.m l.k l.reciprocal l.fn.a l.i
