-- An axis by the definitions: its waypoints, the numbers of its ends and of its inner nodes, and its coefficients. Assumes nothing.
use Rattle.std.specs.Prelude.{ℕ, suc, ◌+◌, ◌-◌, ◌*◌, List, Float}
use Rattle.law_lists.specs.Lists.{listed}
use Rattle.rules.specs.Build.{of_axis, solved_side, inner_numbers, axis_coefficients}
use Rattle.build_plan.specs.Given.{first_of, last_of}
use Rattle.build_rhs.specs.declared.AxisWaypoints.{AxisWaypoints}
use Rattle.build_sweeps.specs.declared.Axis.{Axis}

-- the waypoints of an axis with n inner nodes, of those of all axes
abbrev pub points_of : ℕ → AxisWaypoints → List Float
points_of n points = listed (n + 2) (of_axis points.axes points.waypoints.now points.axis)

-- the numbers of its first node, and of its last
abbrev pub start_of : Axis → List Float
start_of a = first_of a.nodes.now.tables.now.m a.numbers.now

abbrev pub end_of : Axis → List Float
end_of a = last_of a.nodes.now.tables.now.m a.numbers.now

-- how many numbers its inner nodes have
abbrev pub inner_length : Axis → ℕ
inner_length a = a.nodes.now.n * a.nodes.now.tables.now.m

-- of inner node i, the solved right side, and the numbers
abbrev pub solved_sides : Axis → ℕ → List Float
solved_sides a i = solved_side a.nodes.now.tables.now.m a.nodes.now.n (points_of a.nodes.now.n a.points) (start_of a) (end_of a) i

abbrev pub numbers_of : Axis → ℕ → List Float
numbers_of a i =
    let n = a.nodes.now.n in
    inner_numbers a.nodes.now.tables.now.m n (points_of n a.points) (start_of a) (end_of a) i (n - suc i)

abbrev pub coefficients_of : Axis → List Float
coefficients_of a =
    axis_coefficients a.nodes.now.tables.now.m a.nodes.now.n (points_of a.nodes.now.n a.points) (start_of a) (end_of a)
