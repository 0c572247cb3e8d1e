-- A row more; then row k is set, and the rows below stay. Assumes nothing.
use Rattle.std.proofs.Common.{◌<◌, refl, arith}
use borrow.Author.Tests.{lt-ltb, le-ltb, eq-eqb, ne_eqb}
use Rattle.build_solving.specs.Steps.{backward_step}
use Rattle.rules.proofs.Cells.{entry_read, read}
use Rattle.rules.proofs.FilledList.{none, step, left, on, whole}
use Rattle.build_solving.proofs.backward_step.Goals as goal

pub loop-i-init : goal.loop-i-init
loop-i-init c = none _ _

pub loop-i-preserved : goal.loop-i-preserved
loop-i-preserved c =
    let f = c.args.matrix.now in
    let k = c.args.k in
    let i = c.loop-i.i in
    let filled = c.loop-i.invariant in
    let before : i < k = c.loop-i-test.true in
    let row : i < f.m = omega arith in
    step filled
    (rw (
      lt-ltb i k before,
      left filled i (omega arith) (omega arith),
      entry_read f.m f.entries.now i k f.entries_length row c.requires.0,
      read c.args.y.now k (omega arith),
      entry_read f.m f.entries.now k k f.entries_length c.requires.0 c.requires.0,
    ))
    (omega arith)

pub returns : goal.returns
unfolding backward_step
returns c =
    let f = c.args.matrix.now in
    let k = c.args.k in
    let above = on c.loop-i.invariant k (omega arith) (omega arith) (λ j h l. absurd (omega arith)) in
    whole
    (on
    (step above
    (rw (
      le-ltb k k (omega arith),
      eq-eqb k k refl,
      read c.args.y.now k (omega arith),
      entry_read f.m f.entries.now k k f.entries_length c.requires.0 c.requires.0,
    ))
    (omega arith))
    f.m (omega arith) (omega arith) (λ j h l. rw (le-ltb j k (omega arith), ne_eqb j k (λ q. omega arith))))
    c.requires.1 (omega arith)
