-- A node more, in its parts. Assumes nothing.
use Rattle.std.proofs.Common.{◌≡◌, ℕ, ◌+◌, ◌*◌, ◌<◌, ◌≤◌, arith}
use Rattle.law_lists.proofs.Lists.{part_inside}
use Rattle.law_lists.proofs.Places.{next_part}
use Rattle.law_lists.proofs.PartedList.{none, step, own, later}
use Rattle.build_nodes.specs.NodeLists.{node_entries, node_rows, node_solved}
use Rattle.build_nodes.proofs.Nodes.{lent_length, length_entries, length-node_rows, length_solved}
use Rattle.build_nodes.proofs.factor_nodes.Goals as goal

pub loop-i-init : goal.loop-i-init
loop-i-init c =
    let m = c.args.m in
    (none _ _ _ (length_entries m c.requires.1.sized), none _ _ _ (length-node_rows m), none _ _ _ (length_solved m))

-- the i-th of n parts is inside
inside : (k i n : ℕ) → i < n → (i + 1) * k ≤ n * k
inside k i n h = omega (arith, part_inside k h, next_part k i)

pub factor_node-requires : goal.factor_node-requires
unfolding node_solved
factor_node-requires c =
    let m = c.args.m in
    let i = c.loop-i.i in
    let entries = inside (m * m) i c.args.n (omega arith) in
    let rows = inside m i c.args.n (omega arith) in
    let solved = c.loop-i.invariant.2 in (
      lent_length (i * (m * m)) (m * m) c.loop-i.entries (omega (arith, next_part (m * m) i)),
      lent_length (i * m) m c.loop-i.rows (omega (arith, next_part m i)),
      omega arith,
      (omega (arith, solved.inside), own solved),
    )

pub loop-i-preserved : goal.loop-i-preserved
unfolding node_solved
loop-i-preserved c =
    let m = c.args.m in
    let i = c.loop-i.i in
    let entries = inside (m * m) i c.args.n (omega arith) in
    let rows = inside m i c.args.n (omega arith) in
    let made = c.factor_node.ensures in (
      step c.loop-i.invariant.0 made.0 (omega arith),
      step c.loop-i.invariant.1 made.1 (omega arith),
      later c.loop-i.invariant.2 made.2 (omega arith),
    )

pub returns : goal.returns
unfolding node_entries node_rows node_solved
returns c =
    let all : c.loop-i.i ≡ c.args.n = omega arith in
    (rw all at c.loop-i.invariant.0.is, rw all at c.loop-i.invariant.1.is, rw all at c.loop-i.invariant.2.is)
