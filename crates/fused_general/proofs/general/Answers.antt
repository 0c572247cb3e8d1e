-- Each way out for an operand that is not finite is a law of proofs/Values.antt. Assumes nothing.
use Rattle.std.proofs.Common.{sym, ◌∙◌, inl, inr}
use lib.Ieee.{binary64}
use Rattle.fused_general.proofs.Values.{factor_not_finite, addend_not_finite}
use Rattle.fused_general.proofs.general.Goals as goal
use Rattle.fused_general.proofs.general.Goals.{then-not-is_finite-via-then-not-is_finite, then-not-is_finite-via-else-not-is_finite+then-not-is_finite-2}

pub returns-then-not-is_finite : goal.returns-then-not-is_finite
returns-then-not-is_finite c = elim c.then-not-is_finite.branch [
  | then-not-is_finite-via-then-not-is_finite w ↦
      factor_not_finite binary64 c.args.a c.args.b c.args.c (inl (sym c.is_finite.ensures.value ∙ w.if-not-is_finite.true))
  | then-not-is_finite-via-else-not-is_finite+then-not-is_finite-2 w ↦
      factor_not_finite binary64 c.args.a c.args.b c.args.c
      (inr (sym w.is_finite-else-not-is_finite.ensures.value ∙ w.if-not-is_finite-2.true))
]

pub returns-then-not-is_finite-3 : goal.returns-then-not-is_finite-3
returns-then-not-is_finite-3 c =
    addend_not_finite binary64 c.args.a c.args.b c.args.c
    (sym c.is_finite.ensures.value ∙ c.if-not-is_finite.false)
    (sym c.is_finite-else-not-is_finite.ensures.value ∙ c.if-not-is_finite-2.false)
    (sym c.is_finite-2.ensures.value ∙ c.if-not-is_finite-3.true)
