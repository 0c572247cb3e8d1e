-- Small factoring and solving, module 4 of document 01: m rows, with m as a parameter. A matrix is a list, row by row. A step gives the new matrix or list
-- place by place from the old one. Assumes nothing.
use Rattle.std.specs.Prelude.{ℕ, zero, suc, ◌+◌, ◌*◌, ◌-◌, cond, ◌||◌, List, [], get_or, leb, ltb, eqb, Float}
use Rattle.std.specs.Float.Ieee.{lt}
use Rattle.rules.specs.Floats.{◌⊖◌, ◌⊗◌, ◌⊘◌, ◌!◌, +1, magnitude, sum_of}
use Rattle.law_lists.specs.Lists.{joined, listed}
use Rattle.rules.specs.Tables.{A, B, C}

-- ---- matrices, and lists of m numbers

-- the entry at row i and column j of a matrix with n columns
abbrev pub entry : ℕ → List Float → ℕ → ℕ → Float
entry n a i j = a ! (i * n + j)

-- the matrix of m rows and n columns that has f i j at row i and column j
unfoldable pub matrix : ℕ → ℕ → (ℕ → ℕ → Float) → List Float
matrix m n f = joined m (λ i. listed n (f i))

-- an m by m matrix times m numbers
unfoldable pub times : ℕ → List Float → List Float → List Float
times m a v = listed m (λ i. sum_of m (λ j. entry m a i j ⊗ v ! j))

-- m numbers minus m numbers
unfoldable pub minus : ℕ → List Float → List Float → List Float
minus m v w = listed m (λ i. v ! i ⊖ w ! i)

-- ---- "Factoring (Golub and Van Loan, partial pivoting)"

-- A matrix factored: the upper factor on and above the diagonal, the multipliers below it, and which row of the matrix each row was.
pub record Factored : Type 0 where
  pub entries : List Float
  pub rows : List ℕ

-- R12: "greatest magnitude at or below the diagonal, first of equals": its row, of column k and the rows k to k + d
unfoldable pub pivot_row : ℕ → List Float → ℕ → ℕ → ℕ
pivot_row m a k zero = k
pivot_row m a k (suc d) =
    let best = pivot_row m a k d in
    let next = k + suc d in
    cond (lt (magnitude (entry m a best k)) (magnitude (entry m a next k))) next best

-- R13: which row comes to stand at row i when the rows k and p are exchanged
unfoldable pub exchange : ℕ → ℕ → ℕ → ℕ
exchange k p i = cond (eqb i k) p (cond (eqb i p) k i)

-- R13: "rows exchanged": whole rows, so with the multipliers that they have by then
unfoldable pub exchanged : ℕ → ℕ → ℕ → Factored → Factored
exchanged m k p f = record {
  entries = matrix m m (λ i j. entry m f.entries (exchange k p i) j);
  rows = listed m (λ i. get_or f.rows (exchange k p i) 0);
}

-- R14, R15: "multipliers are entry times the rounded reciprocal of the pivot; subtract column by column": below row k they take the place of column k,
-- and a multiplier times row k's entry is subtracted from each entry to the right
unfoldable pub eliminated : ℕ → ℕ → Factored → Factored
eliminated m k f =
    let a = f.entries in
    let reciprocal = +1 ⊘ entry m a k k in
    record {
      entries = matrix m m (λ i j.
          let multiplier = entry m a i k ⊗ reciprocal in
          cond (leb i k || ltb j k) (entry m a i j)
          (cond (eqb j k) multiplier (entry m a i j ⊖ multiplier ⊗ entry m a k j)));
      rows = f.rows;
    }

-- the first k steps
unfoldable pub factor_steps : ℕ → List Float → ℕ → Factored
factor_steps m a zero = record { entries = a; rows = listed m (λ i. i) }
factor_steps m a (suc k) =
    let f = factor_steps m a k in
    eliminated m k (exchanged m k (pivot_row m f.entries k (m - suc k)) f)

-- R12, R13, R14, R15: all m steps
unfoldable pub factor : ℕ → List Float → Factored
factor m a = factor_steps m a m

-- ---- solving: "each number once found, its products are subtracted one at a time from the rows still to be solved"

-- R16, R18: "Solve forward from the first row": the right side with its rows exchanged, after the first k rows
unfoldable pub forward : ℕ → Factored → List Float → ℕ → List Float
forward m f b zero = listed m (λ i. b ! get_or f.rows i 0)
forward m f b (suc k) =
    let y = forward m f b k in
    listed m (λ i. cond (leb i k) (y ! i) (y ! i ⊖ entry m f.entries i k ⊗ y ! k))

-- R17, R18: "then back from the last by division": after the last d rows
unfoldable pub backward : ℕ → Factored → List Float → ℕ → List Float
backward m f b zero = forward m f b m
backward m f b (suc d) =
    let y = backward m f b d in
    let k = m - suc d in
    let x = y ! k ⊘ entry m f.entries k k in
    listed m (λ i. cond (ltb i k) (y ! i ⊖ entry m f.entries i k ⊗ x) (cond (eqb i k) x (y ! i)))

-- R16, R17, R18: forward, then back
unfoldable pub solve : ℕ → Factored → List Float → List Float
solve m f b = backward m f b m

-- column j of an m by m matrix
unfoldable pub column : ℕ → List Float → ℕ → List Float
column m a j = listed m (λ i. entry m a i j)

-- R10: an m by m matrix solved, column by column
unfoldable pub solve_matrix : ℕ → Factored → List Float → List Float
solve_matrix m f a =
    let columns = listed m (λ j. solve m f (column m a j)) in
    matrix m m (λ i j. get_or columns j [] ! i)

-- ---- the matrices of the inner nodes, which m and the node's place alone decide

-- R9, Z1: "The matrix is B, past the first B − A·(previous solved C)": at inner node i, counted from 0
unfoldable pub node_matrix : ℕ → ℕ → List Float
node_matrix m zero = B m
node_matrix m (suc i) =
    let previous = solve_matrix m (factor m (node_matrix m i)) (C m) in
    matrix m m (λ r c. entry m (B m) r c ⊖ sum_of m (λ k. entry m (A m) r k ⊗ entry m previous k c))

unfoldable pub node_factors : ℕ → ℕ → Factored
node_factors m i = factor m (node_matrix m i)

-- R10: "solved C" at inner node i
unfoldable pub solved_c_of : ℕ → ℕ → List Float
solved_c_of m i = solve_matrix m (node_factors m i) (C m)
