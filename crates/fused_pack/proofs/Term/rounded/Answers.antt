-- Assumes nothing.
use Rattle.std.proofs.Common.{◌≡◌, ℕ, ◌*◌, ◌^◌, ◌<◌, Float, ◌∙◌, subst}
use lib.Ieee.{binary64, round}
use Rattle.law_rounding.specs.Sticky.{Sticky}
use Rattle.fused_words.specs.Words.{value}
use Rattle.fused_pack.specs.declared.Term.{Term}
use Rattle.fused_pack.proofs.Round.{one_word, two_words}
use Rattle.fused_pack.proofs.Term.rounded.Goals as goal
use Rattle.fused_pack.proofs.Term.rounded.Goals.{then-high-eq0, else-high-eq0}

-- what `leading` makes of a term
abbrev Led : Float → Term → Type 0
Led r t = (v x : ℕ) → 0 < v → Sticky v x (value t.words) → r ≡ round binary64 t.negative (x * 2 ^ t.exponent) (v * 2 ^ 2336)

pub returns : goal.returns
returns c v x p s only =
    let t = c.args.self in
    let r = c.leading.result in
    elim c.if-high-eq0.branch [
      | then-high-eq0 w ↦
          one_word t.negative t.words.low t.exponent r (subst (Led r) w.term-is c.leading.ensures) v x p (only w.if-high-eq0.true)
      | else-high-eq0 w ↦ subst (Led r) w.term-is c.leading.ensures v x p s ∙ two_words t.negative t.exponent v x p
    ]
