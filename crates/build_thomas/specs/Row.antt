-- How many coefficients an axis has, and its segments. Assumes nothing.
use Rattle.std.specs.Prelude.{ℕ, suc, ◌+◌, ◌*◌, List, Float}
use Rattle.rules.specs.Floats.{◌!◌}
use Rattle.rules.specs.Build.{dy, segment_coefficients}
use Rattle.build_segments.specs.NodeNumbers.{node_part}
use Rattle.build_sweeps.specs.declared.Axis.{Axis}
use Rattle.build_sweeps.specs.OfAxis.{points_of}

-- how many coefficients its segments have together
abbrev pub axis_cells : Axis → ℕ
axis_cells a = (a.nodes.now.n + 1) * (2 * a.nodes.now.tables.now.m + 2)

-- segment i's coefficients, with its nodes' numbers as they are kept
abbrev pub segment_of : Axis → List Float → ℕ → List Float
segment_of a solved i =
    let m = a.nodes.now.tables.now.m in
    let n = a.nodes.now.n in
    let w : List Float = points_of n a.points in
    let node : ℕ → List Float = node_part m n a.numbers.now solved in
    segment_coefficients m (w ! i) (dy w i) (node i) (node (suc i))
