-- Assumes nothing.
use Rattle.fused_near.proofs.Convert.{power_value}
use Rattle.fused_near.proofs.power.Goals as goal

pub returns : goal.returns
returns c = rw c.signed.ensures (power_value c.args.field c.requires.0 c.requires.1 c.args.negative)
