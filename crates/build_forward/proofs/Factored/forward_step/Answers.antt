-- A row more. The loop starts below row k, since the step leaves the rows to k as they are. Assumes nothing.
use Rattle.std.proofs.Common.{◌+◌, ◌<◌, arith}
use borrow.Author.Tests.{le-leb, lt-leb}
use Rattle.build_forward.specs.Steps.{forward_cell, forward_step}
use Rattle.rules.proofs.Cells.{entry_read, read}
use Rattle.rules.proofs.FilledList.{start, step, left, whole}
use Rattle.build_forward.proofs.Factored.forward_step.Goals as goal

pub loop-i-init : goal.loop-i-init
loop-i-init c =
    let f = c.args.self.now in
    start (c.args.k + 1) (forward_cell f.m f.entries.now c.args.y.now c.args.k) c.args.y.now (omega arith) (λ j h. rw (le-leb j c.args.k (omega arith)))

pub loop-i-preserved : goal.loop-i-preserved
loop-i-preserved c =
    let f = c.args.self.now in
    let k = c.args.k in
    let i = c.loop-i.i in
    let filled = c.loop-i.invariant in
    let past : k < i = omega arith in
    step filled
    (rw (
      lt-leb i k past,
      left filled i (omega arith) (omega arith),
      entry_read f.m f.entries.now i k f.entries_length c.loop-i-test.true c.requires.0,
      read c.args.y.now k (omega arith),
    ))
    (omega arith)

pub returns : goal.returns
unfolding forward_step
returns c = whole c.loop-i.invariant c.requires.1 (omega arith)
