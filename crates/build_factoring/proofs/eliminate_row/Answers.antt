-- A column more. Assumes nothing.
use Rattle.std.proofs.Common.{◌≡◌, ◌∙◌, arith}
use Rattle.build_factoring.proofs.Elimination.{multiplier_is, row_start, row_step, row_done_lem}
use Rattle.build_factoring.proofs.eliminate_row.Goals as goal

pub loop-j-init : goal.loop-j-init
loop-j-init c = λ b n w e. e

pub loop-j-preserved : goal.loop-j-preserved
loop-j-preserved c =
    λ b n w e. row_step c.args.m c.args.k c.args.reciprocal b c.args.i c.requires.0 c.requires.1 n
    c.loop-j.a c.loop-j.j _ (omega arith) c.loop-j-test.true w (c.loop-j.invariant b n w e)

pub returns : goal.returns
returns c =
    let full : c.loop-j.j ≡ c.args.m = omega arith in
    λ b n e.
    (rw full at (c.loop-j.invariant b n
    (multiplier_is c.args.m c.args.k c.args.reciprocal b c.args.i c.requires.0 c.requires.1 n c.args.a.now e)
    (row_start c.args.m c.args.k c.args.reciprocal b c.args.i c.requires.0 c.requires.1 n c.args.a.now e)))
    ∙ row_done_lem c.args.m c.args.k c.args.reciprocal b c.args.i
