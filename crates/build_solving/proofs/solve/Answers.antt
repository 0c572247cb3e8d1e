-- A row more. Assumes nothing.
use Rattle.std.proofs.Common.{◌≡◌, ◌-◌, sym, ◌∙◌, arith}
use Rattle.rules.specs.Solve.{backward, solve}
use Rattle.build_solving.proofs.Steps.{backward_more}
use Rattle.build_solving.proofs.solve.Goals as goal

pub loop-k-init : goal.loop-k-init
unfolding backward
loop-k-init c =
    let none : c.args.matrix.now.m - c.args.matrix.now.m ≡ 0 = omega arith in
    rw none c.forward.ensures

pub loop-k-preserved : goal.loop-k-preserved
loop-k-preserved c =
    (rw c.loop-k.invariant at c.backward_step.ensures) ∙ sym (backward_more c.args.matrix.now.m _ _ c.loop-k.k (omega arith) (omega arith))

pub returns : goal.returns
unfolding solve
returns c =
    let all : c.args.matrix.now.m - c.loop-k.k ≡ c.args.matrix.now.m = omega arith in
    rw all at c.loop-k.invariant
