-- The first coefficients are written. Assumes nothing.
use Rattle.law_lists.specs.Lists.{joined}
use Rattle.rules.specs.Floats.{◌!◌}
use Rattle.sheet_bits.specs.Page.{Wrote}
use Rattle.sheet_bits.specs.Coefficients.{coefficient}
use Rattle.sheet_lines.proofs.put_coefficients.Given as goal

abbrev pub invariant-loop-x : goal.invariant-loop-x
invariant-loop-x l = Wrote l.fn.page (joined l.x-index (λ k. coefficient (l.coeffs ! k))) l.page
