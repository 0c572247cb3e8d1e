-- A matrix kept by columns, column by column: a part of it is a column, and a matrix that is solved column by column
-- is its solved columns, one after the other. Assumes nothing.
use mathlib.Core.Path.{◌≡◌, sym, ap, ◌∙◌}
use mathlib.Core.List.{List, []}
use Prim.Native.Nat.{ℕ, ◌+◌, ◌*◌, ◌-◌, ◌<◌}
use native.Mathlib.Omega.{arith}
use lib.ListN.{length, take, drop, length-drop}
use lib.Seq.{length-take-le}
use lib.Ieee.{Float}
use Rattle.rules.specs.Floats.{◌!◌, +0}
use Rattle.law_lists.specs.Lists.{joined}
use Rattle.rules.specs.Solve.{Factored, matrix, solve, column, solve_matrix}
use Rattle.law_lists.proofs.Filling.{listed_at, listed_ext, listed_of, joined_ext}
use Rattle.rules.proofs.Matrices.{matrix_at, matrix_ext}
use Rattle.rules.proofs.Solve.{length-solve}
use Rattle.build_products.specs.Columns.{transposed}
use Rattle.law_lists.proofs.Lists.{part_inside}
use Rattle.rules.proofs.Cells.{part_cell}
use Rattle.build_products.proofs.Transposed.{transposed_at}

module _ (m : ℕ) where
  pub part_column : (c : List Float) (j : ℕ) → length c ≡ m * m → j < m → take (j * m + m - j * m) (drop (j * m) c) ≡ column m (transposed m c) j
  unfolding column
  part_column c j e h =
      let part = take (j * m + m - j * m) (drop (j * m) c) in
      let size : length part ≡ m = length-take-le (j * m + m - j * m) (drop (j * m) c) (simp length-drop (omega (arith, part_inside m h))) ∙ omega arith in
      sym (listed_of +0 m part size)
      ∙ listed_ext m _ _ (λ i l. part_cell (j * m) m c i l ∙ sym (transposed_at m c i j l h))

  module _ (f : Factored) (a : List Float) where
    solved : ℕ → List Float
    solved j = solve m f (column m a j)

    pub solved_columns : transposed m (solve_matrix m f a) ≡ joined m (λ j. solve m f (column m a j))
    unfolding transposed solve_matrix matrix solved
    solved_columns =
        matrix_ext m m _ (λ j i. solved j ! i) (λ j i h l. matrix_at m m _ i j l h ∙ ap (λ (xs : List Float). xs ! i) (listed_at [] m solved j h))
        ∙ joined_ext m _ _ (λ j h. listed_of +0 m (solved j) (length-solve m f (column m a j)))
