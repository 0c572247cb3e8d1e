-- Assumes nothing.
use Rattle.std.proofs.Common.{ℕ, ◌-◌, ◌*◌, ◌^◌, not, ap, ◌∙◌, arith}
use lib.Ieee.{binary64, round}
use Rattle.fused_near.proofs.Convert.{low_short, low_sticky, converted_above, converted_below, off_above, off_below}
use Rattle.fused_near.proofs.Biased.converted.Goals as goal

pub returns : goal.returns
returns c =
    let w = c.args.self.words in
    let s = c.args.negative in
    let e = c.args.e in
    let p = c.requires in
    let j = c.marked-l.result in
    let h = c.args.self.short in
    let short = low_short w.low j (omega arith) c.marked-l.ensures in
    let sticky = low_sticky w.low j c.marked-l.ensures in
    record {
      above = λ g.
          converted_above s (w.high - 2 ^ 51) w.low j e c.unbiased.result c.power.result c.power-2.result
          (omega (arith, h, g)) (omega (arith, g)) short sticky p.0 p.1 c.power.ensures c.power-2.ensures (c.unbiased.ensures.0 (omega (arith, g)))
          ∙ ap (λ (n : ℕ). round binary64 s (n * 2 ^ e) (2 ^ 2150)) (off_above w.high w.low g);
      below = λ g.
          converted_below s (2 ^ 51 - w.high) w.low j e c.unbiased.result c.power.result c.power-2.result
          (omega (arith, h, g)) (omega (arith, g)) short sticky p.0 p.1 c.power.ensures c.power-2.ensures (c.unbiased.ensures.1 (omega (arith, g)))
          ∙ ap (λ (n : ℕ). round binary64 (not s) (n * 2 ^ e) (2 ^ 2150)) (off_below w.high w.low g);
    }
