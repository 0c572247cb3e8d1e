-- Cells of a slice of floats: what is read of one, also in a part that is lent, and of a matrix. Assumes nothing.
use mathlib.Core.Path.{◌≡◌, refl, ◌∙◌}
use mathlib.Core.List.{List, [], ◌∷◌}
use Prim.Native.Nat.{ℕ, zero, suc, ◌+◌, ◌*◌, ◌-◌, ◌<◌}
use native.Mathlib.Nat.{not-suc-le-zero, le_of_suc-le-suc}
use native.Mathlib.Omega.{arith}
use lib.ListN.{length, get_or, take, drop}
use lib.Seq.{get_or-take, get_or-drop}
use lib.Ieee.{Float, nan}
use Rattle.rules.specs.Floats.{◌!◌, +0}
use Rattle.rules.specs.Solve.{entry}
use Rattle.law_lists.proofs.Places.{cell_inside}

-- code that reads a cell reads what the definitions have there: they differ past the end alone
pub read : (xs : List Float) (i : ℕ) → i < length xs → get_or xs i nan ≡ xs ! i
read [] i h = absurd (not-suc-le-zero h)
read (x ∷ xs) zero h = refl
read (x ∷ xs) (suc i) h = read xs i (le_of_suc-le-suc h)

-- a cell of a part that is lent
pub part_cell : (at k : ℕ) (xs : List Float) (j : ℕ) → j < k → take (at + k - at) (drop at xs) ! j ≡ xs ! (at + j)
part_cell at k xs j h = get_or-take (at + k - at) (drop at xs) j +0 (omega arith) ∙ get_or-drop at xs j +0

pub entry_read : (m : ℕ) (a : List Float) (i j : ℕ) → length a ≡ m * m → i < m → j < m → get_or a (i * m + j) nan ≡ entry m a i j
entry_read m a i j e h l = read a (i * m + j) (rw e (cell_inside m h l))
