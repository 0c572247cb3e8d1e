-- The quotient decides alone, by the law of the range. Assumes nothing.
use Rattle.std.specs.Float.Ieee.{of_bits}
use Rattle.questions.proofs.Finite.{finite_is}
use Rattle.questions.proofs.Range.{by_quotient}
use Rattle.questions.proofs.valid_range.Goals as goal

pub returns-then-is_finite : goal.returns-then-is_finite
unfolding of_bits
returns-then-is_finite c = simp (by_quotient, ← c.inv_ds-inv.ensures, ← finite_is, ← c.is_finite.ensures.value, c.if-is_finite.true)

pub returns-else-is_finite : goal.returns-else-is_finite
returns-else-is_finite c = simp (by_quotient, ← c.inv_ds-inv.ensures, ← finite_is, ← c.is_finite.ensures.value, c.if-is_finite.false)
