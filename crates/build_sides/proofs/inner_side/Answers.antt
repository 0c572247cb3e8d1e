-- Past the first node the part that is read is the previous solved right side.
use Rattle.std.proofs.Common.{◌+◌, ◌-◌, ◌*◌, ◌≤◌, length, arith}
use Rattle.law_lists.proofs.Lists.{part_inside}
use Rattle.law_lists.proofs.Lent.{part_size, part_length}
use Rattle.build_products.proofs.Transposed.{columns_long}
use Rattle.build_sides.proofs.Sides.{past_first_is}
use Rattle.build_sides.proofs.inner_side.Goals as goal

pub subtract_product-requires : goal.subtract_product-requires
subtract_product-requires c =
    let parts = c.args.parts in
    let m = parts.m in
    let i = c.args.node.i in
    let solved = c.args.solved.now in
    let inside : (i - 1) * m + m ≤ length solved = omega (arith, part_inside m {i = i - 1} {n = i} (omega arith)) in
    (parts.some, columns_long parts.holds_a, rw part_size (part_length ((i - 1) * m) m solved inside), omega arith)

pub returns-then-past_first : goal.returns-then-past_first
returns-then-past_first c =
    let parts = c.args.parts in
    λ w p q s.
    rw (c.subtract_product.ensures, part_size, c.bounded_side.ensures w p q)
    (past_first_is parts.holds_r parts.holds_a parts.holds_c parts.n w _ _ _ c.args.node.i c.if-past_first.true (s c.if-past_first.true))
