-- `sheet_config::cells_of` meets its contract: 8 axes by 256 segments by 2^40 + 1 coefficients fit. Assumes nothing.
use Prim.Native.Nat.{◌-◌, ◌*◌, ◌+◌, ◌^◌, ◌≤◌}
use native.Mathlib.Nat.{mul-le-mul, lt_of_le_of_lt}
use native.Mathlib.Omega.{arith}
use lib.Dec.{lit≤}
use Rattle.sheet_config.proofs.cells_of.Goals as goal

pub overflow_mul-result-2 : goal.overflow_mul-result-2
overflow_mul-result-2 c =
    let few : c.args.n.axes * (c.args.n.points - 1) ≤ 8 * 256 = mul-le-mul {n₂ = 8} {m₂ = 256} c.requires.few_axes (omega arith) in
    let orders : c.order_of.result + 1 ≤ 2 ^ 40 + 1 = omega arith in
    record { fits = lt_of_le_of_lt (mul-le-mul few orders) (lit≤ tt) }
