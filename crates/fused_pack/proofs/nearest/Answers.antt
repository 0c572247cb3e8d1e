-- Assumes nothing.
use Rattle.fused_pack.proofs.Round.{nearest_is}
use Rattle.fused_pack.proofs.nearest.Goals as goal

pub returns : goal.returns
returns c = nearest_is c.args.w
