-- A column more, solved in its part. Assumes nothing.
use Rattle.std.proofs.Common.{◌≡◌, sym, ◌∙◌, arith}
use Rattle.rules.specs.Solve.{solve, column}
use Rattle.rules.proofs.Solve.{length-solve}
use Rattle.build_products.specs.Columns.{transposed}
use Rattle.build_forward.specs.Steps.{factors_of}
use Rattle.law_lists.proofs.Lists.{part_inside}
use Rattle.law_lists.proofs.Places.{next_part}
use Rattle.law_lists.proofs.PartedList.{none, step, whole}
use Rattle.build_solving.proofs.SolvedColumns.{part_column, solved_columns}
use Rattle.build_solving.proofs.solve_matrix.Goals as goal

pub loop-j-init : goal.loop-j-init
loop-j-init c = none _ _ _ (λ j. length-solve _ _ _)

pub loop-j-preserved : goal.loop-j-preserved
loop-j-preserved c =
    let m = c.args.matrix.now.m in
    let j = c.loop-j.j in
    let solved : c.solve.new.y ≡ solve m (factors_of c.args.matrix.now) (column m (transposed m c.args.c.now) j) =
    rw (← part_column m c.args.c.now j c.requires.0 c.loop-j-test.true) c.solve.ensures in
    step c.loop-j.invariant solved (omega (arith, part_inside m c.loop-j-test.true, next_part m j))

pub returns : goal.returns
returns c = whole c.loop-j.invariant c.requires.1 (omega arith) ∙ sym (solved_columns _ _ _)
