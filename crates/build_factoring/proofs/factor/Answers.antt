-- A step more. Assumes nothing.
use Rattle.std.proofs.Common.{◌≡◌, refl, arith}
use Rattle.rules.specs.Solve.{factor_steps, factor}
use Rattle.build_pivots.proofs.Exchange.{swapped_listed}
use Rattle.build_factoring.proofs.Factors.{step_entries, step_rows}
use Rattle.build_factoring.proofs.factor.Goals as goal

pub loop-k-init : goal.loop-k-init
unfolding factor_steps
loop-k-init c = (refl, rw c.requires.1 at c.identity.ensures)

pub loop-k-preserved : goal.loop-k-preserved
loop-k-preserved c =
    let at = c.loop-k in
    let chosen = c.pivot_row-p.ensures.0 in (
      step_entries _ _ _ _ _ _ _ at.invariant.0 chosen c.exchange_entries.ensures c.eliminate.ensures,
      step_rows _ _ _ _ _ _ _ at.invariant.0 chosen (omega arith) at.invariant.1
          (swapped_listed 0 _ _ _ _ c.swap.ensures.len c.swap.ensures.by_index),
    )

pub returns : goal.returns
unfolding factor
returns c =
    let full : c.loop-k.k ≡ c.args.m = omega arith in
    (rw full at c.loop-k.invariant.0, rw full at c.loop-k.invariant.1)
