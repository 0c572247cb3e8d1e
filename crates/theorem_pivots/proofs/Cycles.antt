-- The factored matrices of the inner nodes are an orbit: each comes of the one before. For each m it is walked once, from the first node to the one at which
-- the cycle begins and from there round to it again, and each pivot on the way is looked at. antt computes the walks. Assumes nothing.
use mathlib.Core.Path.{◌≡◌, refl, ap, ◌∙◌}
use mathlib.Core.Bool.{Bool, true, false, not, ◌&&◌}
use mathlib.Core.List.{[], ◌∷◌}
use Prim.Native.Nat.{ℕ, zero, suc, ◌≤◌}
use native.Mathlib.Omega.{arith}
use lib.IntN.{negsuc}
use lib.Ieee.{Float, fin, add, sub, mul, div, neg, lt, eq, le, of_int}
use Rattle.rules.specs.Floats.{◌⊖◌, ◌⊗◌, +0, finite, magnitude, sum_of}
use Rattle.law_lists.specs.Lists.{joined, listed, every}
use Rattle.rules.specs.Tables.{A, B, C, m1, m2, m3, for_order}
use Rattle.rules.specs.Solve.{Factored, entry, matrix, pivot_row, exchange, exchanged, eliminated, factor_steps, factor}
use Rattle.rules.specs.Solve.{forward, backward, solve, column, solve_matrix, node_matrix, node_factors}
use Rattle.theorem_pivots.specs.Pivots.{least}
use Rattle.theorem_pivots.specs.Repeating.{lead, period}
use Rattle.theorem_pivots.proofs.Orbits.{after, walk, Closed}

-- the next node's factored matrix
unfoldable pub next : ℕ → Factored → Factored
next m f =
    let previous = solve_matrix m f (C m) in
    factor m (matrix m m (λ r c. entry m (B m) r c ⊖ sum_of m (λ k. entry m (A m) r k ⊗ entry m previous k c)))

next_is : (m i : ℕ) → node_factors m (suc i) ≡ next m (node_factors m i)
unfolding node_factors node_matrix next
next_is m i = refl

pub node_is : (m i : ℕ) → node_factors m i ≡ after (next m) i (node_factors m 0)
unfolding after
node_is m zero = refl
node_is m (suc i) = next_is m i ∙ ap (next m) (node_is m i)

-- what is asked of a pivot
unfoldable pub fine : Float → Bool
fine p = not (eq p +0) && finite p && le least (magnitude p)

unfoldable pub all_fine : ℕ → Factored → Bool
all_fine m f = every m (λ k. fine (entry m f.entries k k))

-- what the walks end in: the factored matrices of node 14 at m = 1, of node 23 at m = 2 and of node 34 at m = 3
abbrev at14 : Factored
at14 = record { entries = fin false 8403831313147477 (negsuc 50) ∷ []; rows = 0 ∷ [] }

abbrev at23 : Factored
at23 = record {
  entries =
      fin true 12145457104915 (negsuc 39) ∷ fin true 1556502178117789 (negsuc 49) ∷
      fin true 4509056457810199 (negsuc 53) ∷ fin false 1373209270615295 (negsuc 47) ∷ [];
  rows = 1 ∷ 0 ∷ [];
}

abbrev at34 : Factored
at34 = record {
  entries =
      fin false 698034499282677 (negsuc 43) ∷ fin false 1762321604126293 (negsuc 46) ∷ fin false 2860024306298831 (negsuc 48) ∷
      fin true 1065956123202845 (negsuc 49) ∷ fin true 3766460624354349 (negsuc 47) ∷ fin false 743391030950225 (negsuc 48) ∷
      fin false 1441592922403269 (negsuc 50) ∷ fin false 5925873835557767 (negsuc 54) ∷ fin false 7066573551148833 (negsuc 50) ∷ [];
  rows = 2 ∷ 1 ∷ 0 ∷ [];
}

-- at which the cycle of each m begins
unfoldable pub begins : ℕ → Factored
begins zero = at14
begins (suc zero) = at14
begins (suc (suc zero)) = at23
begins (suc (suc (suc m))) = at34

abbrev pub Cycle : ℕ → Type 0
Cycle m = Closed (next m) (all_fine m) (lead m) (period m) (node_factors m 0) (begins m)

walked : Cycle 1 × Cycle 2 × Cycle 3
unfolding add sub mul div neg lt eq le of_int sum_of joined listed every m1 m2 m3 for_order
    matrix pivot_row exchange exchanged eliminated factor_steps factor forward backward solve column solve_matrix node_matrix node_factors
    next fine all_fine begins lead period walk
walked = (
  record { some = omega arith; there = refl; back = refl },
  record { some = omega arith; there = refl; back = refl },
  record { some = omega arith; there = refl; back = refl },
)

pub cycle : (m : ℕ) → 1 ≤ m → m ≤ 3 → Cycle m
cycle zero h l = absurd (omega arith)
cycle (suc zero) h l = walked.0
cycle (suc (suc zero)) h l = walked.1
cycle (suc (suc (suc zero))) h l = walked.2
cycle (suc (suc (suc (suc m)))) h l = absurd (omega arith)
