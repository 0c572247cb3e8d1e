-- What the sums of a segment's coefficients are lent, and what one step of them does. Assumes nothing.
use Rattle.std.specs.Prelude.{◌≡◌, List, ℕ, suc, ◌+◌, ◌-◌, ◌*◌, ◌<◌, ◌≤◌, T, ℤ, length}
use Rattle.rules.specs.Master.{within, at, coefficient, sumℤ}

-- the sums of segment i can be taken: it is in the table, and its coefficients are within ±2^40
pub record Summable (m : ℕ) (table : List ℤ) (i : ℕ) : Type 0 where
  pub most_m : m ≤ 3
  pub most_i : i ≤ 255
  pub inside : i * (2 * m + 2) + (2 * m + 2) ≤ length table
  pub coefficients : (k : ℕ) → k < 2 * m + 2 → T (within (coefficient m table i k))

-- the sum of the numbers at the places k to last
unfoldable pub sum_from : List ℤ → ℕ → ℕ → ℤ
sum_from b last k = sumℤ (suc last - k) (λ i. at b (k + i))

-- what b becomes where the numbers from a first place to a last one are added up
pub record AddedUp (first last : ℕ) (b b' : List ℤ) : Type 0 where
  pub below : (k : ℕ) → k < first → at b' k ≡ at b k
  pub added : (k : ℕ) → first ≤ k → k ≤ last → at b' k ≡ sum_from b last k
