-- The first i cells hold the upper coefficients, and the others their own.
use Rattle.rules.specs.Build.{upper_coefficient}
use Rattle.rules.proofs.FilledList.{Filled}
use Rattle.build_segments.proofs.upper_coeffs.Given as goal

abbrev pub invariant-loop-i : goal.invariant-loop-i
invariant-loop-i l = Filled l.i (upper_coefficient l.m l.dy l.u0 l.u1) l.initial.out l.out
