-- A row more. Assumes nothing.
use Rattle.std.proofs.Common.{ℕ, ◌<◌, get_or, arith}
use Rattle.rules.specs.Solve.{forward}
use Rattle.rules.proofs.FilledList.{none, step, whole}
use Rattle.rules.proofs.Cells.{read}
use Rattle.build_forward.proofs.Factored.exchange_rows.Goals as goal

pub loop-i-init : goal.loop-i-init
loop-i-init c = none _ _

pub loop-i-preserved : goal.loop-i-preserved
loop-i-preserved c =
    let row : ℕ = get_or c.args.self.now.rows.now c.loop-i.i 0 in
    let below : row < c.args.self.now.m = c.args.self.now.rows_below c.loop-i.i c.loop-i-test.true in
    step c.loop-i.invariant (read c.args.b.now row (omega arith)) (omega arith)

pub returns : goal.returns
unfolding forward
returns c = whole c.loop-i.invariant c.requires.1 (omega arith)
