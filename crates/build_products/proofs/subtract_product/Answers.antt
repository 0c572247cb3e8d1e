-- A cell more. Assumes nothing.
use Rattle.std.proofs.Common.{arith}
use Rattle.rules.specs.Solve.{minus}
use Rattle.rules.proofs.FilledList.{none, step, left, whole}
use Rattle.build_products.proofs.Transposed.{times_at}
use Rattle.build_products.proofs.subtract_product.Goals as goal

pub loop-i-init : goal.loop-i-init
loop-i-init c = none _ _

pub loop-i-preserved : goal.loop-i-preserved
loop-i-preserved c =
    let filled = c.loop-i.invariant in
    let i = c.loop-i.i in
    step filled (rw (left filled i (omega arith) (omega arith), c.dot.ensures, c.requires.2, times_at c.args.m c.args.a.now c.args.u.now i (omega arith))) (omega arith)

pub returns : goal.returns
unfolding minus
returns c = whole c.loop-i.invariant c.requires.3 (omega arith)
