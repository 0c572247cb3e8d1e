-- A matrix kept by columns: its entries, its length, and that it is the matrix itself when it is transposed again. Assumes nothing.
use mathlib.Core.Path.{◌≡◌, sym, ap, ◌∙◌}
use mathlib.Core.List.{List}
use Prim.Native.Nat.{ℕ, ◌+◌, ◌*◌, ◌-◌, ◌<◌}
use native.Mathlib.Omega.{arith}
use lib.ListN.{length, take, drop}
use lib.Ieee.{Float}
use Rattle.rules.specs.Floats.{◌⊗◌, ◌!◌, +0, sum_of}
use Rattle.rules.specs.Solve.{entry, times}
use Rattle.law_lists.proofs.Filling.{listed_at}
use Rattle.rules.proofs.Matrices.{matrix_at, matrix_ext, matrix_of, length-matrix}
use Rattle.build_products.specs.Columns.{transposed, ByRows, ByColumns}
use Rattle.rules.proofs.Cells.{part_cell}
use Rattle.build_products.proofs.Sums.{sum_of_ext}

module _ (m : ℕ) (a : List Float) where
  pub length-transposed : length (transposed m a) ≡ m * m
  unfolding transposed
  length-transposed = length-matrix m m _

  pub transposed_at : (i j : ℕ) → i < m → j < m → entry m (transposed m a) i j ≡ entry m a j i
  unfolding transposed
  transposed_at i j h l = matrix_at m m _ i j h l

  -- a row's products with v, where the matrix is kept by columns
  pub row_products : (v : List Float) (i : ℕ) → i < m
      → sum_of m (λ j. a ! (i + j * m) ⊗ v ! j) ≡ sum_of m (λ j. entry m (transposed m a) i j ⊗ v ! j)
  row_products v i h =
      sum_of_ext m _ _ (λ j l. ap (λ (x : Float). x ⊗ v ! j) (ap (λ (p : ℕ). a ! p) (omega arith) ∙ sym (transposed_at i j h l)))

  pub times_at : (v : List Float) (i : ℕ) → i < m → times m (transposed m a) v ! i ≡ sum_of m (λ j. a ! (i + j * m) ⊗ v ! j)
  unfolding times
  times_at v i h = listed_at +0 m _ i h ∙ sym (row_products v i h)

pub transposed_twice : (m : ℕ) (a : List Float) → length a ≡ m * m → transposed m (transposed m a) ≡ a
unfolding transposed
transposed_twice m a e = matrix_ext m m _ (entry m a) (λ i j h l. transposed_at m a j i l h) ∙ matrix_of m m a e

-- ---- a list that holds a matrix: how long it is, and the matrix again

pub rows_long : {size : ℕ} {xs a : List Float} → ByRows size xs a → length xs ≡ size
rows_long h = ap length h.is ∙ h.sized

pub columns_long : {m : ℕ} {xs a : List Float} → ByColumns m xs a → length xs ≡ m * m
columns_long {m} {xs} {a} h = ap length h.is ∙ length-transposed m a

pub columns_are : {m : ℕ} {xs a : List Float} → ByColumns m xs a → transposed m xs ≡ a
columns_are {m} {xs} {a} h = ap (transposed m) h.is ∙ transposed_twice m a h.sized

-- a row of one matrix times a column of another, where both are kept by columns
pub row_times_column : (m : ℕ) (a b : List Float) (r c : ℕ) → r < m → c < m
    → sum_of m (λ j. a ! (r + j * m) ⊗ take (c * m + m - c * m) (drop (c * m) b) ! j)
    ≡ sum_of m (λ k. entry m (transposed m a) r k ⊗ entry m (transposed m b) k c)
row_times_column m a b r c h l =
    row_products m a (take (c * m + m - c * m) (drop (c * m) b)) r h
    ∙ sum_of_ext m _ _ (λ j i. ap (λ (x : Float). entry m (transposed m a) r j ⊗ x) (part_cell (c * m) m b j i ∙ sym (transposed_at m b j c i l)))
