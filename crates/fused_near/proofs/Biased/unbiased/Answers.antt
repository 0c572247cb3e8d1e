-- Assumes nothing.
use Rattle.fused_near.proofs.Convert.{unbiased_above, unbiased_below}
use Rattle.fused_near.proofs.Biased.unbiased.Goals as goal

pub returns : goal.returns
returns c = let b = c.args.self in (unbiased_above b.words.high b.short, unbiased_below b.words.high b.short)
