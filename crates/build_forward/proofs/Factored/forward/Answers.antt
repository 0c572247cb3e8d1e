-- A row more. Assumes nothing.
use Rattle.std.proofs.Common.{◌∙◌}
use Rattle.build_forward.proofs.Steps.{forward_more}
use Rattle.build_forward.proofs.Factored.forward.Goals as goal

pub loop-k-preserved : goal.loop-k-preserved
loop-k-preserved c = c.forward_step.ensures ∙ rw (forward_more, c.loop-k.invariant)
