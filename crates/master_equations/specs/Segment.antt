-- One segment of a master: what its equations are, and what the functions that ask them are lent. Assumes nothing.
use Rattle.std.specs.Prelude.{◌≡◌, Bool, cond, ◌&&◌, List, ℕ, suc, ◌+◌, ◌-◌, ◌*◌, ◌≤◌, eqb, ℤ, length}
use Rattle.law_lists.specs.Lists.{every}
use Rattle.rules.specs.Master.{same, at, coefficient, at_end}

-- what the questions have settled of the lengths of a set with so many waypoints, the start state aside
pub record Shaped (m : ℕ) (w end table : List ℤ) : Type 0 where
  pub least_m : 1 ≤ m
  pub most_m : m ≤ 3
  pub least : 2 ≤ length w
  pub most : length w ≤ 257
  pub end_is : length end ≡ m
  pub table_is : length table ≡ (length w - 1) * (2 * m + 2)

-- of the sums r = 0, 1, .. at a segment's end, those from r = 1 on are the numbers of a list, as far as it goes
unfoldable pub meets_at : List ℤ → List ℤ → Bool
meets_at sums numbers = every (length numbers) (λ r. same (at sums (suc r)) (at numbers r))

-- segment i starts and ends at its waypoints, and ends as the next segment starts, the last one as the end state says
unfoldable pub segment_meets : ℕ → List ℤ → List ℤ → List ℤ → ℕ → Bool
segment_meets m w end table i =
    same (coefficient m table i 0) (at w i)
    && same (at_end m table i 0) (at w (suc i))
    && cond (eqb (i + 2) (length w))
    (every m (λ r. same (at_end m table i (suc r)) (at end r)))
    (every (2 * m) (λ r. same (at_end m table i (suc r)) (coefficient m table (suc i) (suc r))))
