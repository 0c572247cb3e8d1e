-- Assumes nothing.
use Rattle.std.proofs.Common.{◌∙◌}
use Rattle.fused_pack.proofs.Round.{rounded_low, rounded_high}
use Rattle.fused_pack.proofs.rounded.Goals as goal

pub returns-then-g-lt1251 : goal.returns-then-g-lt1251
returns-then-g-lt1251 c v x p s =
    let w = c.shifted_word in
    c.pattern.ensures ∙ rounded_low c.args.negative c.args.w c.args.g w.result v x c.if-g-lt1251.true w.type_inv w.ensures p s

pub returns-else-g-lt1251 : goal.returns-else-g-lt1251
returns-else-g-lt1251 c v x p s =
    c.pattern-else-g-lt1251.ensures
    ∙ rounded_high c.args.negative c.args.w c.args.g v x c.if-g-lt1251.false c.requires.0 c.ranges.w.fits p s
