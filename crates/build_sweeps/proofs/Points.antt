-- A point of an axis is a waypoint. Assumes nothing.
use mathlib.Core.Path.{◌≡◌, ap₂}
use mathlib.Core.List.{List}
use Prim.Native.Nat.{ℕ, suc, ◌+◌, ◌*◌, ◌<◌}
use native.Mathlib.Omega.{arith}
use lib.ListN.{length}
use lib.Ieee.{Float}
use Rattle.rules.specs.Floats.{◌⊖◌, ◌!◌, +0}
use Rattle.rules.specs.Build.{of_axis, dy}
use Rattle.law_lists.specs.Lists.{listed}
use Rattle.law_lists.proofs.Filling.{listed_at}
use Rattle.law_lists.proofs.Places.{cell_inside}

-- of any numbers and list; of an `AxisWaypoints` the listed waypoints are its `points_of`
module _ (n axes axis : ℕ) (waypoints : List Float) where
  pub points_at : (k : ℕ) → k < n + 2 → listed (n + 2) (of_axis axes waypoints axis) ! k ≡ of_axis axes waypoints axis k
  points_at k h = listed_at +0 (n + 2) _ k h

  pub points_dy : (i : ℕ) → suc i < n + 2
      → dy (listed (n + 2) (of_axis axes waypoints axis)) i ≡ of_axis axes waypoints axis (suc i) ⊖ of_axis axes waypoints axis i
  unfolding dy
  points_dy i h = ap₂ ◌⊖◌ (points_at (suc i) h) (points_at i (omega arith))

-- its place is in the list, by `below` of an `AxisWaypoints` and `points_length` of an `Axis`
pub point_inside : (n axes axis : ℕ) (waypoints : List Float) → axis < axes → length waypoints ≡ (n + 2) * axes
    → (k : ℕ) → k < n + 2 → k * axes + axis < length waypoints
point_inside n axes axis waypoints b e k l = rw e (cell_inside axes l b)
