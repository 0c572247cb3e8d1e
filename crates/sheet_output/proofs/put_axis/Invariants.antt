-- The lines of the first segments are written. Assumes nothing.
use Rattle.law_lists.specs.Lists.{joined}
use Rattle.rules.specs.SheetAnswers.{seg_line, segment}
use Rattle.sheet_bits.specs.Page.{Wrote}
use Rattle.sheet_output.proofs.put_axis.Given as goal

abbrev pub invariant-loop-segment : goal.invariant-loop-segment
invariant-loop-segment l = Wrote l.fn.page (joined l.segment (λ i. seg_line l.axis i (segment l.fn.path l.coeffs l.axis i))) l.page
