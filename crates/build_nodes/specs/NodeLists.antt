-- The lists that the matrices of a build's inner nodes are kept in. Assumes nothing.
use Rattle.std.specs.Prelude.{ℕ, ◌*◌, ◌≤◌, List, length, Float}
use Rattle.law_lists.specs.Lists.{joined}
use Rattle.rules.specs.Solve.{node_factors, solved_c_of}
use Rattle.build_products.specs.Columns.{transposed}

-- of the first n inner nodes, one after the other: the factored matrices, their rows, and solved C by columns
unfoldable pub node_entries : ℕ → ℕ → List Float
node_entries m n = joined n (λ i. (node_factors m i).entries)

unfoldable pub node_rows : ℕ → ℕ → List ℕ
node_rows m n = joined n (λ i. (node_factors m i).rows)

unfoldable pub node_solved : ℕ → ℕ → List Float
node_solved m n = joined n (λ i. transposed m (solved_c_of m i))

-- room for n nodes
pub record Room (m n : ℕ) (entries : List Float) (rows : List ℕ) (solved : List Float) : Type 0 where
  pub for_entries : n * (m * m) ≤ length entries
  pub for_rows : n * m ≤ length rows
  pub for_solved : n * (m * m) ≤ length solved
