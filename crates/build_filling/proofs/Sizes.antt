-- How large a build's counts can be. Assumes nothing.
use Prim.Native.Nat.{ℕ, ◌+◌, ◌*◌, ◌≤◌}
use native.Mathlib.Nat.{mul-le-mul}
use native.Mathlib.Omega.{arith}

-- the cells of an axis
pub stride_small : (m n : ℕ) → m ≤ 3 → n ≤ 255 → (n + 1) * (2 * m + 2) ≤ 2048
stride_small m n h l = mul-le-mul {n₂ = 256} {m₂ = 8} (omega arith) (omega arith)

-- the cells of a table
pub table_small : (axes stride : ℕ) → axes ≤ 8 → stride ≤ 2048 → axes * stride ≤ 16384
table_small axes stride h l = mul-le-mul h l
