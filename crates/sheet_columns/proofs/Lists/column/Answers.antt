-- `Lists::column` meets its contract. Assumes nothing.
use native.Mathlib.Omega.{arith}
use Rattle.rules.proofs.FilledList.{none, step}
use Rattle.sheet_config.proofs.Exact.{back}
use Rattle.sheet_record.specs.Reached.{number_in}
use Rattle.sheet_columns.proofs.Lists.column.Goals as goal

pub loop-a-init : goal.loop-a-init
loop-a-init c = none _ _

pub loop-a-preserved : goal.loop-a-preserved
loop-a-preserved c =
    let lists = c.args.self.now in
    let number = number_in lists.stride lists.buffer.now c.args.k c.loop-a.a in
    step c.loop-a.invariant (rw (back number (lists.reached.near _ _ (omega arith) (omega arith)))) (omega arith)
