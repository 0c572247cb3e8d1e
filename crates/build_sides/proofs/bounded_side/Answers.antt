-- By both tests: what the calls leave, one after the other, is the definition's right side.
use mathlib.Core.Bool.{true, false}
use Rattle.std.proofs.Common.{eq-eqb, arith}
use Rattle.std.proofs.lemmas.Bool.{ne_eqb}
use Rattle.build_products.proofs.Transposed.{columns_long}
use Rattle.build_sides.proofs.Sides.{bounded_is}
use Rattle.build_sides.proofs.bounded_side.Goals as goal
use Rattle.build_sides.proofs.bounded_side.Goals.{then-at_first, else-at_first}

pub subtract_product-requires : goal.subtract_product-requires
subtract_product-requires c =
    let parts = c.args.parts in
    (parts.some, columns_long parts.holds_a, parts.first_length, omega arith)

pub subtract_product-requires-then-at_last : goal.subtract_product-requires-then-at_last
subtract_product-requires-then-at_last c =
    let parts = c.args.parts in
    (parts.some, columns_long parts.holds_c, parts.last_length, omega arith)

pub returns-then-at_last : goal.returns-then-at_last
returns-then-at_last c =
    let a = c.args in
    let p = a.parts in
    elim c.if-at_first.branch [
      | then-at_first b ↦ λ w before after.
          rw (c.subtract_product-then-at_last.ensures, b.side-is, b.subtract_product.ensures, c.compute_rhs.ensures, c.requires.1)
          (bounded_is p.holds_r p.holds_a p.holds_c p.n w _ _ a.node.i a.node.dy_prev a.node.dy_next true true
          (eq-eqb _ _ b.if-at_first.true) (eq-eqb _ _ c.if-at_last.true) before after)
      | else-at_first b ↦ λ w before after.
          rw (c.subtract_product-then-at_last.ensures, b.side-is, c.compute_rhs.ensures, c.requires.1)
          (bounded_is p.holds_r p.holds_a p.holds_c p.n w _ _ a.node.i a.node.dy_prev a.node.dy_next false true
          (ne_eqb _ _ b.if-at_first.false) (eq-eqb _ _ c.if-at_last.true) before after)
    ]

pub returns-else-at_last : goal.returns-else-at_last
returns-else-at_last c =
    let a = c.args in
    let p = a.parts in
    elim c.if-at_first.branch [
      | then-at_first b ↦ λ w before after.
          rw (b.side-is, b.subtract_product.ensures, c.compute_rhs.ensures, c.requires.1)
          (bounded_is p.holds_r p.holds_a p.holds_c p.n w _ _ a.node.i a.node.dy_prev a.node.dy_next true false
          (eq-eqb _ _ b.if-at_first.true) (ne_eqb _ _ c.if-at_last.false) before after)
      | else-at_first b ↦ λ w before after.
          rw (b.side-is, c.compute_rhs.ensures, c.requires.1)
          (bounded_is p.holds_r p.holds_a p.holds_c p.n w _ _ a.node.i a.node.dy_prev a.node.dy_next false false
          (ne_eqb _ _ b.if-at_first.false) (ne_eqb _ _ c.if-at_last.false) before after)
    ]
