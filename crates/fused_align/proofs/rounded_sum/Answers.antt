-- Assumes nothing.
use Rattle.std.proofs.Common.{◌*◌, ◌^◌, ◌∙◌, ap}
use lib.Ieee.{binary64}
use Rattle.law_rounding.proofs.Sums.{sum_swap}
use Rattle.fused_words.specs.Words.{value}
use Rattle.fused_align.specs.Placed.{added}
use Rattle.fused_align.proofs.rounded_sum.Goals as goal
use Rattle.fused_align.proofs.rounded_sum.Goals.{then-x-y, else-x-y}

pub returns : goal.returns
returns c =
    let x = c.args.x in
    let y = c.args.y in
    elim c.if-x-y.branch [
      | then-x-y w ↦
          c.aligned.ensures
          ∙ ap (λ t. added t.0 t.1) w.ordered-is
          ∙ sum_swap binary64 y.negative (value y.words * 2 ^ y.exponent) x.negative (value x.words * 2 ^ x.exponent) (2 ^ 2272)
      | else-x-y w ↦ c.aligned.ensures ∙ ap (λ t. added t.0 t.1) w.ordered-is
    ]
