use Rattle.std.proofs.Common.{◌+◌, length, refl, arith}
use Rattle.rules.proofs.FilledList.{none, step, whole}
use Rattle.build_plan.proofs.Columns.{fewer}
use Rattle.build_plan.proofs.states.EndState.axis_numbers.Goals as goal

pub loop-r-init : goal.loop-r-init
loop-r-init c = none _ _

pub number-requires : goal.number-requires
number-requires c =
    let a = c.args in
    (c.requires.0, fewer a.axes (c.loop-r.r + 1) (length a.out.now) a.self (omega arith) c.requires.1)

pub loop-r-preserved : goal.loop-r-preserved
loop-r-preserved c = step c.loop-r.invariant c.number.ensures (omega arith)

pub returns : goal.returns
returns c = whole c.loop-r.invariant refl c.loop-r-test.false
