-- Assumes nothing.
use Rattle.fused_near.proofs.Convert.{lifted_is}
use Rattle.fused_near.proofs.lifted.Goals as goal

pub returns : goal.returns
returns c = lifted_is c.args.m c.args.n c.requires
