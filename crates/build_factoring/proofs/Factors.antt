-- A step of factoring, from what its parts give; and that factoring gives m by m entries and m rows, each a row of the matrix. Assumes nothing.
use mathlib.Core.Path.{◌≡◌}
use mathlib.Core.List.{List, []}
use Prim.Native.Nat.{ℕ, zero, suc, ◌+◌, ◌-◌, ◌*◌, ◌<◌, ◌≤◌}
use native.Mathlib.Numerals.{add-one}
use native.Mathlib.Omega.{arith}
use lib.ListN.{length, get_or}
use lib.Ieee.{Float}
use Rattle.std.proofs.lemmas.Bool.Decides.{nat_tests}
use Rattle.law_lists.specs.Lists.{listed}
use Rattle.rules.specs.Solve.{entry, matrix, pivot_row, exchange, exchanged, eliminated, factor_steps, factor}
use Rattle.law_lists.proofs.Lists.{length-listed}
use Rattle.law_lists.proofs.Filling.{listed_at}
use Rattle.rules.proofs.Matrices.{length-matrix}
use Rattle.build_pivots.proofs.Exchange.{exchange_below}

pivot_below : (m : ℕ) (a : List Float) (k d : ℕ) → k + d < m → pivot_row m a k d < m
unfolding pivot_row
pivot_below m a k zero h = omega arith
pivot_below m a k (suc d) h = grind (arith, nat_tests, pivot_below m a k d (omega arith))

module _ (m : ℕ) (a : List Float) where
  -- a step, from what its parts give
  pub step_entries : (k p : ℕ) (b c d : List Float) → b ≡ (factor_steps m a k).entries → p ≡ pivot_row m b k (m - suc k)
      → c ≡ matrix m m (λ i j. entry m b (exchange k p i) j) → d ≡ (eliminated m k (record { entries = c; rows = [] })).entries
      → d ≡ (factor_steps m a (k + 1)).entries
  unfolding factor_steps exchanged eliminated
  step_entries k p b c d e f g h = rw (add-one, h, g, f, e)

  pub step_rows : (k p : ℕ) (b : List Float) (r s : List ℕ) → b ≡ (factor_steps m a k).entries → p ≡ pivot_row m b k (m - suc k)
      → length r ≡ m → r ≡ (factor_steps m a k).rows → s ≡ listed (length r) (λ i. get_or r (exchange k p i) 0) → s ≡ (factor_steps m a (k + 1)).rows
  unfolding factor_steps exchanged eliminated
  step_rows k p b r s e f l g h = rw (add-one, h, l, g, f, e)

  length_steps : length a ≡ m * m → (k : ℕ) → length (factor_steps m a k).entries ≡ m * m
  unfolding factor_steps exchanged eliminated
  length_steps e zero = e
  length_steps e (suc k) = length-matrix m m _

  length_rows_steps : (k : ℕ) → length (factor_steps m a k).rows ≡ m
  unfolding factor_steps exchanged eliminated
  length_rows_steps zero = length-listed m _
  length_rows_steps (suc k) = length-listed m _

  rows_below_steps : (k : ℕ) → k ≤ m → (i : ℕ) → i < m → get_or (factor_steps m a k).rows i 0 < m
  unfolding factor_steps exchanged eliminated
  rows_below_steps zero l i h = rw (listed_at 0 m (λ j. j) i h) h
  rows_below_steps (suc k) l i h =
      rw (listed_at {A = ℕ} 0 m)
      (rows_below_steps k (omega arith) _ (exchange_below k _ m i l (pivot_below m (factor_steps m a k).entries k (m - suc k) (omega arith)) h))

  pub length-factor : length a ≡ m * m → length (factor m a).entries ≡ m * m
  unfolding factor
  length-factor e = length_steps e m

  pub length_rows : length (factor m a).rows ≡ m
  unfolding factor
  length_rows = length_rows_steps m

  pub rows_below : (i : ℕ) → i < m → get_or (factor m a).rows i 0 < m
  unfolding factor
  rows_below = rows_below_steps m (omega arith)
