use Rattle.std.proofs.Common.{◌≡◌, ◌+◌, ◌-◌, ◌*◌, ℕ, List, Float, ◌++◌, drop, sym, ap, ◌∙◌, take-append-drop, arith}
use Rattle.law_lists.specs.Lists.{joined}
use Rattle.build_sweeps.proofs.Back.{stepped, swept, swept_start, swept_step, swept_end}
use Rattle.build_sweeps.proofs.NodeMatrices.back_sweep.Goals as goal

pub loop-i-init : goal.loop-i-init
loop-i-init c =
    let self = c.args.self.now in
    let m = self.tables.now.m in
    let solved : List Float = c.args.solved.now in
    λ w start end h.
    sym (take-append-drop (self.n * m) solved)
    ∙ ap (λ (xs : List Float). xs ++ drop (self.n * m) solved) (h ∙ swept_start m self.n w start end)

pub loop-i-preserved : goal.loop-i-preserved
loop-i-preserved c =
    let self = c.args.self.now in
    let m = self.tables.now.m in
    let n = self.n in
    let p = c.loop-i.i - 1 - 1 in
    let solved : List Float = c.args.solved.now in
    let next : c.loop-i.i - 1 ≡ p + 1 = omega arith in
    λ w start end h.
    c.back_step.ensures
    ∙ ap (stepped m p) (c.loop-i.invariant w start end h ∙ ap (λ (b : ℕ). joined n (swept m n w start end b) ++ drop (n * m) solved) next)
    ∙ swept_step m n w start end p solved (omega arith)

pub returns : goal.returns
returns c =
    let self = c.args.self.now in
    let m = self.tables.now.m in
    λ w start end h.
    c.loop-i.invariant w start end h
    ∙ ap (λ (xs : List Float). xs ++ drop (self.n * m) c.args.solved.now) (swept_end m self.n w start end (c.loop-i.i - 1) (omega arith))
