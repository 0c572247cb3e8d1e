use Rattle.std.proofs.Common.{◌≡◌, ℕ, ◌+◌, ◌*◌, ◌<◌, ◌≤◌, List, Float, length, add-one, arith}
use Rattle.law_lists.proofs.Lent.{part_size, part_length}
use Rattle.law_lists.proofs.Lists.{part_inside}
use Rattle.law_lists.proofs.Places.{next_part}
use Rattle.law_lists.proofs.PartedList.{none, kept, step}
use Rattle.rules.proofs.Build.{length-segment}
use Rattle.build_segments.proofs.NodeNumbers.{length_part}
use Rattle.build_sweeps.proofs.Points.{points_at, points_dy}
use Rattle.build_sweeps.specs.declared.Axis.{Axis}
use Rattle.build_sweeps.specs.OfAxis.{inner_length}
use Rattle.build_segments.specs.NodeNumbers.{node_part}
use Rattle.build_thomas.specs.Row.{axis_cells}
use Rattle.build_thomas.proofs.write_segments.Goals as goal

module _ (a : Axis) where
  -- a node has m numbers
  node_length : (solved : List Float) → inner_length a ≤ length solved → (i : ℕ)
      → length (node_part a.nodes.now.tables.now.m a.nodes.now.n a.numbers.now solved i) ≡ a.nodes.now.tables.now.m
  node_length solved h = length_part a.nodes.now.tables.now.m a.nodes.now.n a.numbers.now solved a.both h

  -- the part for segment i is inside
  inside : (chunk : List Float) → length chunk ≡ axis_cells a → (i : ℕ) → i < a.nodes.now.n + 1
      → (let width = 2 * a.nodes.now.tables.now.m + 2 in i * width + width ≤ length chunk)
  inside chunk h i l = rw h (part_inside (2 * a.nodes.now.tables.now.m + 2) l)

pub loop-i-init : goal.loop-i-init
loop-i-init c = none _ _ _ (λ j. length-segment _ _ _ _ _ (node_length c.args.axis.now c.args.solved.now c.requires.0 j))

pub write_segment_coeffs_with-requires : goal.write_segment_coeffs_with-requires
write_segment_coeffs_with-requires c =
    let a = c.args.axis.now in
    let width = 2 * a.nodes.now.tables.now.m + 2 in
    let i = c.loop-i.i in
    let chunk : List Float = c.args.chunk.now in
    let room : i * width + width ≤ length c.loop-i.chunk =
    omega (arith, inside a chunk c.requires.1 i (omega arith), kept c.loop-i.invariant) in (
      rw c.numbers_of_node.ensures (node_length a c.args.solved.now c.requires.0 i),
      rw c.numbers_of_node-in-loop-i.ensures (node_length a c.args.solved.now c.requires.0 (i + 1)),
      rw part_size (part_length (i * width) width c.loop-i.chunk room),
    )

pub loop-i-preserved : goal.loop-i-preserved
loop-i-preserved c =
    let a = c.args.axis.now in
    let n = a.nodes.now.n in
    let points = a.points in
    let i = c.loop-i.i in
    step c.loop-i.invariant
    (rw (
      c.write_segment_coeffs_with.ensures,
      c.waypoint.ensures,
      c.dy.ensures,
      c.numbers_of_node.ensures,
      c.numbers_of_node-in-loop-i.ensures,
      points_at n points.axes points.axis points.waypoints.now i (omega arith),
      points_dy n points.axes points.axis points.waypoints.now i (omega arith),
      add-one,
    ))
    (rw next_part (inside a c.args.chunk.now c.requires.1 i (omega arith)))
