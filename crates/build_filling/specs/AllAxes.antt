-- What the filling of all axes is lent, and what it leaves. Assumes nothing.
use Rattle.std.specs.Prelude.{◌≡◌, ℕ, ◌+◌, ◌*◌, ◌≤◌, List, length, Float}
use Rattle.law_lists.specs.Lists.{listed, joined}
use Rattle.rules.specs.Build.{of_axis, boundary_number, axis_coefficients}
use Rattle.build_plan.specs.declared.Plan.{Plan}
use Rattle.build_plan.specs.declared.states.EndState.{EndState}
use Rattle.build_plan.specs.Given.{first_of, last_of}
use Rattle.build_sweeps.specs.declared.NodeMatrices.{NodeMatrices}

-- the waypoints of an axis, of those of all axes
abbrev pub waypoints_of : Plan → ℕ → List Float
waypoints_of p axis = listed (p.n + 2) (of_axis p.axes p.waypoints.now axis)

-- an axis's m numbers of a state
abbrev pub end_numbers_of : Plan → EndState → ℕ → List Float
end_numbers_of p end axis = listed p.m (boundary_number p.axes p.inv_ds end.state end.numbers.now axis)

-- an axis's boundary numbers
pub record BothEnds (p : Plan) (axis : ℕ) (boundary : List Float) : Type 0 where
  pub first : first_of p.m boundary ≡ end_numbers_of p p.start axis
  pub last : last_of p.m boundary ≡ end_numbers_of p p.end axis

-- an axis's coefficients
abbrev pub axis_table : Plan → ℕ → List Float
axis_table p axis = axis_coefficients p.m p.n (waypoints_of p axis) (end_numbers_of p p.start axis) (end_numbers_of p p.end axis)

-- all axes, one after the other
abbrev pub all_axes : Plan → List Float
all_axes p = joined p.axes (axis_table p)

-- how many coefficients they have
abbrev pub cells_of : Plan → ℕ
cells_of p = p.axes * ((p.n + 1) * (2 * p.m + 2))

-- the nodes' matrices are those of the plan, and there is room for an axis's numbers and for all coefficients
pub record FillLent (p : Plan) (nodes : NodeMatrices) (solved coeffs : List Float) : Type 0 where
  pub of_m : nodes.tables.now.m ≡ p.m
  pub of_n : nodes.n ≡ p.n
  pub solved_room : p.n * p.m ≤ length solved
  pub cells : length coeffs ≡ cells_of p
