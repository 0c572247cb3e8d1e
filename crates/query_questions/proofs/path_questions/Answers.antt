-- Behind the questions of order, segments and axes their products are small. Assumes nothing.
use Rattle.std.proofs.Common.{◌≡◌, ℕ, ◌+◌, ◌*◌, ◌≤◌, T, true, leb, subst, leb→le, arith}
use native.Mathlib.Nat.{mul-le-mul}
use lib.Ieee.Fits.{and_r}
use Rattle.rules.specs.Build.{valid_order, valid_axes}
use Rattle.rules.proofs.Build.{by_order}
use Rattle.query_questions.proofs.path_questions.Goals as goal

order_bound : (order : ℕ) → true ≡ valid_order order → order ≤ 7
order_bound order e = by_order (λ n. n ≤ 7) (omega arith) (omega arith) (omega arith) order (subst T e tt)

few : (axes : ℕ) → true ≡ valid_axes axes → axes ≤ 8
unfolding valid_axes
few axes e = leb→le axes 8 (and_r (leb 1 axes) _ (subst T e tt))

pub overflow_mul-path : goal.overflow_mul-path
overflow_mul-path c =
    let h = mul-le-mul {n₂ = 8} {m₂ = 256} (few _ c.if-not-valid_axes.ensures) c.if-path-gt-MOST_SEGMENTS.false in
    record { fits = omega arith }

pub overflow_add-path : goal.overflow_add-path
overflow_add-path c = let h = order_bound _ c.if-not-valid_order.ensures in record { fits = omega arith }

pub overflow_mul-path-2 : goal.overflow_mul-path-2
overflow_mul-path-2 c =
    let p = c.args.path in
    let h = order_bound p.order c.if-not-valid_order.ensures in
    let places = mul-le-mul {n₂ = 8} {m₂ = 256} (few p.axes c.if-not-valid_axes.ensures) c.if-path-gt-MOST_SEGMENTS.false in
    let all : p.axes * p.segments * (p.order + 1) ≤ 2048 * 8 = mul-le-mul {n₂ = 2048} {m₂ = 8} places (omega arith) in
    record { fits = omega arith }
