-- Two-point builds of whole numbers are exact, as document 01 has it: "For two points whose numbers, given states included, are whole and within 2^40, the
-- build from unmarked states is exact: every axis meets the endpoint equations below. The check says yes to each axis whose coefficients are within ±2^40 too;
-- otherwise it gives 4." For the orders 3, 5 and 7, and any number of axes that a build takes. Proved by `two_points_are_exact` of proofs/Exact.antt.
-- Assumes nothing.
use Rattle.std.specs.Prelude.{◌≡◌, Bool, true, false, cond, ◌&&◌, List, map, Option, Some, None, Ok, Err, ℕ, ◌<◌, T, Float}
use Rattle.law_rounding.specs.Whole.{is_whole, whole_of}
use Rattle.rules.specs.declared.BoundaryState.{BoundaryState}
use Rattle.rules.specs.declared.PathError.TheVariants.{InvalidArgument}
use Rattle.law_lists.specs.Lists.{all, listed}
use Rattle.rules.specs.Tables.{m_of}
use Rattle.rules.specs.Build.{BuildInput, build_number, axis_waypoints}
use Rattle.rules.specs.Master.{MasterSet, within, Equations, endpoint_equations, check_master, master_says}
use Rattle.theorem_builds.specs.Independent.{marked, given_number, axis_part}

-- "whole and within 2^40"; either zero is
unfoldable pub whole_within : Float → Bool
whole_within x = is_whole x && within (whole_of x)

-- "given states included"
unfoldable pub whole_state : Option BoundaryState → List Float → Bool
whole_state None numbers = true
whole_state (Some state) numbers = all whole_within numbers

-- "two points whose numbers, given states included, are whole and within 2^40", from "unmarked states"
pub record WholeTwoPoints (b : BuildInput) : Type 0 where
  pub points : b.points ≡ 2
  pub waypoints : T (all whole_within b.waypoints)
  pub start : T (whole_state b.config.start_state b.start)
  pub end : T (whole_state b.config.end_state b.end)
  pub start_unmarked : marked b.config.start_state ≡ false
  pub end_unmarked : marked b.config.end_state ≡ false

-- an axis's m numbers of a state as they are given
unfoldable pub given_state : BuildInput → Option BoundaryState → List Float → ℕ → List Float
given_state b state numbers axis = listed (m_of b.config.order) (given_number b.axes state numbers axis)

-- An axis of a build as a set for the check: its waypoints and states as they are given, and its part of the buffer, all as whole numbers.
unfoldable pub axis_set : BuildInput → ℕ → MasterSet
axis_set b axis = record {
  order = b.config.order;
  waypoints = map whole_of (axis_waypoints b axis);
  start = map whole_of (given_state b b.config.start_state b.start axis);
  end = map whole_of (given_state b b.config.end_state b.end axis);
  table = map whole_of (axis_part b axis);
}

-- what holds of an axis's part of the buffer, and of its set
pub record Exact (part : List Float) (s : MasterSet) : Type 0 where
  -- every coefficient is a whole number, so that the set's table is the very numbers in the buffer
  pub whole : T (all is_whole part)
  -- "every axis meets the endpoint equations": as the check tests them, and among all its equations (of two points there are no joint equations)
  pub endpoints : T (endpoint_equations s)
  pub equations : Equations s
  -- "The check says yes to each axis whose coefficients are within ±2^40 too; otherwise it gives 4."
  pub check : check_master s ≡ master_says (cond (all within s.table) (Ok true) (Err InvalidArgument))

-- D2b, R32, R33: the theorem: a build, accepted into a buffer of so many cells
unfoldable pub TwoPointsAreExact : Type 0
TwoPointsAreExact =
    (b : BuildInput) (cells axis : ℕ) → build_number b cells ≡ 0 → WholeTwoPoints b → axis < b.axes → Exact (axis_part b axis) (axis_set b axis)
