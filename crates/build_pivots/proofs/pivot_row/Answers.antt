-- A row more. Assumes nothing.
use Rattle.std.proofs.Common.{◌≡◌, suc, ◌+◌, ◌-◌, Bool, true, false, cond, ◌∙◌, arith}
use lib.Ieee.{lt}
use Rattle.rules.specs.Solve.{pivot_row}
use Rattle.build_pivots.proofs.Pivots.{pivot_step}
use Rattle.build_pivots.proofs.pivot_row.Goals as goal
use Rattle.build_pivots.proofs.pivot_row.Goals.{then-abs, else-abs}

pub loop-next-init : goal.loop-next-init
unfolding pivot_row
loop-next-init c = (omega arith, omega arith, let e : c.args.k + 1 - suc c.args.k ≡ 0 = omega arith in rw e)

pub loop-next-preserved : goal.loop-next-preserved
loop-next-preserved c =
    let at = c.loop-next in
    let step : (t : Bool) → lt c.abs.result c.abs-in-loop-next.result ≡ t
    → cond t at.next at.best ≡ pivot_row c.args.m c.args.a.now c.args.k (at.next + 1 - suc c.args.k) =
    λ t. pivot_step c.args.m c.args.a.now c.args.k at.best at.next _ _ t (omega arith) at.invariant.1 c.loop-next-test.true c.requires.1 at.invariant.2
    c.abs.ensures.value c.abs-in-loop-next.ensures.value in
    elim c.if-abs.branch [
      | then-abs w ↦ (omega arith, omega arith, w.best-is ∙ step true w.if-abs.true)
      | else-abs w ↦ (omega arith, omega arith, w.best-is ∙ step false w.if-abs.false)
    ]
