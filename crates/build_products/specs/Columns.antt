-- How the code keeps a matrix, by rows or by columns, and what the rows of a factored one are. Assumes nothing.
use Rattle.std.specs.Prelude.{◌≡◌, ℕ, ◌+◌, ◌*◌, ◌<◌, List, length, get_or, Float}
use Rattle.rules.specs.Tables.{A, B, C, R, H}
use Rattle.rules.specs.Solve.{entry, matrix}

-- an m by m matrix by columns, where it was by rows, and the other way round
unfoldable pub transposed : ℕ → List Float → List Float
transposed m a = matrix m m (λ i j. entry m a j i)

-- a list holds a matrix of so many entries by rows
pub record ByRows (size : ℕ) (xs a : List Float) : Type 0 where
  pub is : xs ≡ a
  pub sized : length a ≡ size

-- a list holds an m by m matrix by columns
pub record ByColumns (m : ℕ) (xs a : List Float) : Type 0 where
  pub is : xs ≡ transposed m a
  pub sized : length a ≡ m * m

-- the tables of an m, as they are kept: A and C by columns, the others by rows
abbrev pub HoldsA : ℕ → List Float → Type 0
HoldsA m xs = ByColumns m xs (A m)

abbrev pub HoldsB : ℕ → List Float → Type 0
HoldsB m xs = ByRows (m * m) xs (B m)

abbrev pub HoldsC : ℕ → List Float → Type 0
HoldsC m xs = ByColumns m xs (C m)

abbrev pub HoldsR : ℕ → List Float → Type 0
HoldsR m xs = ByRows (m * 2) xs (R m)

abbrev pub HoldsH : ℕ → List Float → Type 0
HoldsH m xs = ByRows ((m + 1) * (1 + 2 * m)) xs (H m)

-- each number of a list of rows is a row of n
abbrev pub Below : ℕ → List ℕ → Type 0
Below n rows = (i : ℕ) → i < length rows → get_or rows i 0 < n
