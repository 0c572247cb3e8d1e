-- A place more. Assumes nothing.
use Rattle.std.proofs.Common.{sym, arith, refl}
use Rattle.law_lists.proofs.Filling.{filled_none, filled_set}
use Rattle.build_pivots.proofs.identity.Goals as goal

pub loop-i-init : goal.loop-i-init
loop-i-init c = sym (filled_none _ _)

pub loop-i-preserved : goal.loop-i-preserved
loop-i-preserved c = rw c.loop-i.invariant (filled_set 0 c.loop-i.i (λ j. j) c.args.rows.now c.loop-i.i (omega arith) refl)
