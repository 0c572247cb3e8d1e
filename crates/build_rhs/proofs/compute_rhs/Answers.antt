use native.Mathlib.Nat.{add-zero}
use Rattle.std.proofs.Common.{◌+◌, ◌*◌, arith}
use Rattle.rules.proofs.Cells.{read}
use Rattle.rules.proofs.FilledList.{none, step}
use Rattle.build_rhs.proofs.compute_rhs.Goals as goal

pub loop-k-init : goal.loop-k-init
loop-k-init c = none _ _

pub loop-k-preserved : goal.loop-k-preserved
loop-k-preserved c =
    let r = c.args.r.now in
    let k = c.loop-k.k in
    step c.loop-k.invariant (rw (read r (k * 2) (omega arith), read r (k * 2 + 1) (omega arith), add-zero)) (omega arith)
