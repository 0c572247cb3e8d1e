use Rattle.std.proofs.Common.{List, Float, ◌∙◌}
use Rattle.build_sweeps.specs.OfAxis.{points_of}
use Rattle.build_thomas.proofs.AxisIs.{axis_is}
use Rattle.build_thomas.proofs.thomas_row.Goals as goal

pub returns : goal.returns
returns c =
    let a = c.args.axis.now in
    let n = a.nodes.now.n in
    let w : List Float = points_of n a.points in
    c.write_segments.ensures ∙ axis_is a.nodes.now.tables.now.m n a.numbers.now c.inner_numbers.new.solved w _ c.inner_numbers.ensures
