-- Axes are independent, as document 01 has it: "Two accepted builds of the same order and point count, with state marks and range alike, that agree bit for
-- bit on an axis's waypoints and states give that axis the same coefficients." It holds between any axis of the one build and any axis of the other, however
-- many axes each has. Proved by `axes_are_independent` of proofs/Independent.antt. Assumes nothing.
use Rattle.std.specs.Prelude.{◌≡◌, Bool, false, List, Option, Some, None, ℕ, ◌+◌, ◌*◌, ◌-◌, ◌<◌, take, drop, Float}
use Rattle.rules.specs.declared.BoundaryState.{BoundaryState}
use Rattle.rules.specs.Floats.{◌!◌, +0}
use Rattle.rules.specs.Tables.{m_of}
use Rattle.rules.specs.Build.{BuildInput, build_number, table}

-- "a state may be marked per unit of s": one that is none is not
unfoldable pub marked : Option BoundaryState → Bool
marked None = false
marked (Some state) = state.per_unit_of_s

-- Number r of an axis's state as it is given, before any division. "A state is none (all zero)"
unfoldable pub given_number : ℕ → Option BoundaryState → List Float → ℕ → ℕ → Float
given_number axes None numbers axis r = +0
given_number axes (Some state) numbers axis r = numbers ! (r * axes + axis)

-- An axis's part of the buffer, which "holds the coefficients, by axis, then segment, then power": segments × (order + 1) cells
unfoldable pub axis_part : BuildInput → ℕ → List Float
axis_part b axis =
    let cells = (b.points - 1) * (b.config.order + 1) in
    take cells (drop (axis * cells) (table b))

-- an axis of one build and an axis of another are given the same, the rest of the builds as document 01 asks
pub record Alike (b b' : BuildInput) (axis axis' : ℕ) : Type 0 where
  pub order : b.config.order ≡ b'.config.order
  pub points : b.points ≡ b'.points
  pub low : b.config.s_min ≡ b'.config.s_min
  pub high : b.config.s_max ≡ b'.config.s_max
  pub start_mark : marked b.config.start_state ≡ marked b'.config.start_state
  pub end_mark : marked b.config.end_state ≡ marked b'.config.end_state
  pub waypoint : (p : ℕ) → p < b.points → b.waypoints ! (p * b.axes + axis) ≡ b'.waypoints ! (p * b'.axes + axis')
  pub start : (r : ℕ) → r < m_of b.config.order
      → given_number b.axes b.config.start_state b.start axis r ≡ given_number b'.axes b'.config.start_state b'.start axis' r
  pub end : (r : ℕ) → r < m_of b.config.order
      → given_number b.axes b.config.end_state b.end axis r ≡ given_number b'.axes b'.config.end_state b'.end axis' r

-- R34: the theorem: two builds, each accepted into a buffer of so many cells
unfoldable pub AxesAreIndependent : Type 0
AxesAreIndependent =
    (b b' : BuildInput) (cells cells' axis axis' : ℕ) → build_number b cells ≡ 0 → build_number b' cells' ≡ 0 → axis < b.axes → axis' < b'.axes
    → Alike b b' axis axis' → axis_part b axis ≡ axis_part b' axis'
