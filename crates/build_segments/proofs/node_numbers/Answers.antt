-- The three cases: the first node, the last, and one between.
use Rattle.std.proofs.Common.{◌-◌, ◌*◌, sym, ◌∙◌, arith}
use Rattle.law_lists.proofs.Lent.{part_size}
use Rattle.build_segments.specs.NodeNumbers.{node_part}
use Rattle.build_segments.proofs.NodeNumbers.{last_part, inner_part}
use Rattle.build_segments.proofs.node_numbers.Goals as goal

pub returns-then-i-eq0 : goal.returns-then-i-eq0
unfolding node_part
returns-then-i-eq0 c = rw c.if-i-eq0.true

pub returns-then-n-i : goal.returns-then-n-i
returns-then-n-i c =
    let a = c.args in
    part_size a.m a.m a.boundary.now ∙ sym (last_part a.m a.n a.boundary.now a.solved.now a.i c.if-n-i.true)

pub returns : goal.returns
returns c =
    let a = c.args in
    part_size ((a.i - 1) * a.m) a.m a.solved.now ∙ sym (inner_part a.m a.n a.boundary.now a.solved.now a.i (omega arith) (omega arith))
