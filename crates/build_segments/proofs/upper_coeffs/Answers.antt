use Rattle.std.proofs.Common.{◌+◌, ◌*◌, ◌≤◌, length, arith}
use Rattle.law_lists.proofs.Lists.{part_inside}
use Rattle.rules.proofs.Cells.{read}
use Rattle.rules.proofs.FilledList.{none, step}
use Rattle.build_products.proofs.Transposed.{rows_long}
use Rattle.build_segments.proofs.UpperCoefficients.{upper_is}
use Rattle.build_segments.proofs.upper_coeffs.Goals as goal

pub loop-i-init : goal.loop-i-init
loop-i-init c = none _ _

pub loop-i-preserved : goal.loop-i-preserved
loop-i-preserved c =
    let a = c.args in
    let h = a.h_coeff.now in
    let i = c.loop-i.i in
    let width = 1 + 2 * a.m in
    let holds = c.requires.1 in
    let row : i * width + width ≤ length h = rw (rows_long holds) (part_inside width (omega arith)) in
    step c.loop-i.invariant
    (rw (read h (i * width) (omega arith), c.dot-dot_u0.ensures, c.dot-dot_u1.ensures, c.requires.2, c.requires.3)
    (upper_is a.m a.dy h a.u0.now a.u1.now i holds.is))
    (omega arith)
