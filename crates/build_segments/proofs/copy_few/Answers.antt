use Rattle.std.proofs.Common.{◌∙◌, refl, arith}
use Rattle.rules.specs.Floats.{+0}
use Rattle.law_lists.proofs.Filling.{listed_of}
use Rattle.rules.proofs.Cells.{read}
use Rattle.rules.proofs.FilledList.{none, step, whole}
use Rattle.build_segments.proofs.copy_few.Goals as goal

pub loop-r-init : goal.loop-r-init
loop-r-init c = none _ _

pub loop-r-preserved : goal.loop-r-preserved
loop-r-preserved c = step c.loop-r.invariant (read c.args.from.now c.loop-r.r (omega arith)) (omega arith)

pub returns : goal.returns
returns c = whole c.loop-r.invariant c.requires (omega arith) ∙ listed_of +0 _ c.args.from.now refl
