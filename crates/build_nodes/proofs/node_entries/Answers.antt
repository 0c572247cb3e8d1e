-- B at the first node, and past it what the node before gives. Assumes nothing.
use Rattle.std.proofs.Common.{◌≡◌, ◌-◌, sym, ◌∙◌, arith}
use Rattle.build_nodes.proofs.Nodes.{first_matrix, node_after_of_m}
use Rattle.build_nodes.proofs.node_entries.Goals as goal

pub returns-then-i-eq0 : goal.returns-then-i-eq0
returns-then-i-eq0 c =
    let tables = c.args.tables.now in
    let first : c.args.i ≡ 0 = omega arith in
    c.copy_from_slice.ensures.after ∙ tables.holds_b.is ∙ sym (rw first (first_matrix tables.m))

pub returns : goal.returns
returns c = rw c.node_matrix.ensures (node_after_of_m _ c.args.i (c.args.i - 1) _ (omega arith) c.requires.0)
