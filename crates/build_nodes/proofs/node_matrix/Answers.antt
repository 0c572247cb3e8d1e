-- A row more, in its part. Assumes nothing.
use Rattle.std.proofs.Common.{arith}
use Rattle.rules.specs.Solve.{matrix}
use Rattle.law_lists.proofs.Lists.{length-listed, part_inside}
use Rattle.law_lists.proofs.Places.{next_part}
use Rattle.law_lists.proofs.PartedList.{none, step, whole}
use Rattle.build_nodes.proofs.node_matrix.Goals as goal

pub loop-r-init : goal.loop-r-init
loop-r-init c = none _ _ _ (λ j. length-listed _ _)

pub loop-r-preserved : goal.loop-r-preserved
loop-r-preserved c =
    let m = c.args.tables.now.m in
    step c.loop-r.invariant c.node_row.ensures (omega (arith, part_inside m c.loop-r-test.true, next_part m c.loop-r.r))

pub returns : goal.returns
unfolding matrix
returns c = whole c.loop-r.invariant c.requires.1 (omega arith)
