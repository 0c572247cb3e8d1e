use Rattle.std.proofs.Common.{◌+◌, ◌*◌}
use Rattle.law_lists.proofs.Lists.{length-listed, part_inside}
use Rattle.law_lists.proofs.Places.{next_part}
use Rattle.law_lists.proofs.PartedList.{none, step}
use Rattle.rules.proofs.Build.{length_axis}
use Rattle.build_filling.proofs.fill_axes.Goals as goal

pub loop-axis-init : goal.loop-axis-init
loop-axis-init c =
    let p = c.args.plan.now in
    none _ _ c.args.coeffs.now (λ axis. length_axis p.m p.n _ _ _ (length-listed p.m _) (length-listed p.m _))

pub loop-axis-preserved : goal.loop-axis-preserved
loop-axis-preserved c =
    let p = c.args.plan.now in
    step c.loop-axis.invariant
    (rw (c.thomas_row.ensures, c.requires.of_m, c.requires.of_n, c.both_ends.ensures.first, c.both_ends.ensures.last))
    (rw (next_part, c.requires.cells) (part_inside ((p.n + 1) * (2 * p.m + 2)) c.loop-axis-test.true))
