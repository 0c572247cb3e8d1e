-- What the matrices of a build's inner nodes hold, and what a step at one node leaves. Assumes nothing.
use Rattle.std.specs.Prelude.{◌≡◌, ℕ, ◌+◌, ◌-◌, ◌*◌, ◌<◌, ◌≤◌, List, ◌++◌, length, take, drop, Float}
use Rattle.rules.specs.Solve.{node_factors, solved_c_of}
use Rattle.build_products.specs.Columns.{transposed}
use Rattle.theorem_pivots.specs.Repeating.{settled, distinct}

-- of n inner nodes, those that differ one after the other: the factored matrices and their rows
pub record NodeFactors (m n : ℕ) (entries : List Float) (rows : List ℕ) : Type 0 where
  pub entries_at : (i : ℕ) → i < n → take (m * m) (drop (settled m i * (m * m)) entries) ≡ (node_factors m i).entries
  pub entries_length : distinct m n * (m * m) ≤ length entries
  pub rows_at : (i : ℕ) → i < n → take m (drop (settled m i * m) rows) ≡ (node_factors m i).rows
  pub rows_length : distinct m n * m ≤ length rows

-- and solved C by columns
pub record NodeSolved (m n : ℕ) (solved : List Float) : Type 0 where
  pub solved_at : (i : ℕ) → i < n → take (m * m) (drop (settled m i * (m * m)) solved) ≡ transposed m (solved_c_of m i)
  pub solved_length : distinct m n * (m * m) ≤ length solved

-- a list with the i-th m numbers replaced, as it comes back where that part was lent
abbrev pub put : ℕ → ℕ → List Float → List Float → List Float
put m i ys xs = take (i * m) xs ++ (ys ++ drop (i * m + m - i * m) (drop (i * m) xs))
