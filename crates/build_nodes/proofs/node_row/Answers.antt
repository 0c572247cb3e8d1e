-- A cell more: its sum is one row of A times one column of the previous matrix. Assumes nothing.
use Rattle.std.proofs.Common.{◌≡◌, ℕ, ◌+◌, ◌-◌, ◌*◌, ◌<◌, List, length, take, drop, arith}
use lib.Ieee.{Float}
use Rattle.law_lists.proofs.Lists.{part_inside}
use Rattle.rules.proofs.Cells.{entry_read}
use Rattle.rules.proofs.FilledList.{none, step}
use Rattle.build_products.proofs.Transposed.{rows_long, columns_long, columns_are, row_times_column}
use Rattle.build_nodes.proofs.Nodes.{lent_length}
use Rattle.build_nodes.proofs.node_row.Goals as goal

pub loop-c-init : goal.loop-c-init
loop-c-init c = none _ _

-- a column of the previous matrix is m numbers long
column : (m c : ℕ) (previous : List Float) → c < m → length previous ≡ m * m → length (take (c * m + m - c * m) (drop (c * m) previous)) ≡ m
column m c previous h e = lent_length (c * m) m previous (omega (arith, part_inside m h))

pub dot-requires : goal.dot-requires
dot-requires c =
    let tables = c.args.tables.now in
    let inside : c.loop-c.c < tables.m = omega arith in
    let size = column tables.m c.loop-c.c c.args.previous.now inside c.requires.1 in
    rw size (omega arith, omega (arith, columns_long tables.holds_a))

pub loop-c-preserved : goal.loop-c-preserved
loop-c-preserved c =
    let tables = c.args.tables.now in
    let m = tables.m in
    let k = c.loop-c.c in
    let previous = c.args.previous.now in
    let inside : k < m = omega arith in
    let size = column m k previous inside c.requires.1 in
    let b = entry_read m tables.b.now c.args.r k (rows_long tables.holds_b) c.requires.0 inside in
    let a = row_times_column m tables.a.now previous c.args.r k c.requires.0 inside in
    step c.loop-c.invariant (rw (b, tables.holds_b.is, c.dot.ensures, size, a, columns_are tables.holds_a)) (omega arith)
