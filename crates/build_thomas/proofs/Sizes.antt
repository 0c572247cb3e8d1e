-- How large the tables of an m are. Assumes nothing.
use Prim.Native.Nat.{ℕ, ◌+◌, ◌*◌, ◌≤◌}
use native.Mathlib.Nat.{mul-le-mul}
use native.Mathlib.Omega.{arith}

-- the entries of a matrix
pub matrix_small : (m : ℕ) → m ≤ 3 → m * m ≤ 9
matrix_small m h = mul-le-mul h h

-- the entries of H
pub upper_small : (m : ℕ) → m ≤ 3 → (m + 1) * (1 + 2 * m) ≤ 28
upper_small m h = mul-le-mul {n₂ = 4} {m₂ = 7} (omega arith) (omega arith)
