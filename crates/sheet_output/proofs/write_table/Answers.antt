-- `sheet_output::write_table` meets its contract. Assumes nothing.
use mathlib.Core.Path.{◌≡◌, refl, ap, ◌∙◌}
use mathlib.Core.List.{List}
use Prim.Native.Nat.{ℕ, ◌+◌, ◌*◌, ◌≤◌}
use native.Mathlib.Nat.{le_trans, mul-le-mul_right}
use native.Mathlib.Omega.{arith}
use borrow.Author.Rules.{rules}
use lib.ListN.{length}
use lib.Ieee.{Float}
use Rattle.law_lists.specs.Lists.{joined}
use Rattle.law_lists.proofs.Lists.{part_inside}
use Rattle.rules.specs.declared.PathRecord.{PathRecord}
use Rattle.rules.specs.SheetAnswers.{table_output, most_bytes}
use Rattle.sheet_bits.specs.declared.Page.{Page}
use Rattle.sheet_lines.specs.Output.{table_line, axis_lines}
use Rattle.sheet_bits.proofs.Writing.{wrote_none, wrote_both, wrote_part, wrote_parts, wrote_all, part_room}
use Rattle.sheet_lines.proofs.Fits.{table_room}
use Rattle.sheet_output.proofs.write_table.Goals as goal

-- all of it fits
fits : (path : PathRecord) (coeffs : List Float) (out : List ℕ) (page : Page) {cells : ℕ}
    → (path.order ≤ 7) × (path.segments ≤ 256) × (path.axes ≤ 8) × (path.axes * path.segments * (path.order + 1) ≤ cells) × (most_bytes ≤ length out)
    → page.buffer.now ≡ out → page.at ≡ 0
    → page.at + length (table_line path) + length (joined path.axes (axis_lines path coeffs)) ≤ length page.buffer.now
fits path coeffs out page (order, segments, axes, cells, room) lent start = omega (arith, table_room path coeffs order segments axes, ap length lent)

pub put_table_line-requires : goal.put_table_line-requires
put_table_line-requires c =
    omega (arith, fits c.args.path c.args.coeffs.now c.args.out.now c.new-page.result c.requires c.new-page.ensures.as_lent c.new-page.ensures.at_start)

pub loop-axis-init : goal.loop-axis-init
unfolding joined
loop-axis-init c = wrote_none _ c.put_table_line.ensures.inside

pub put_axis-requires : goal.put_axis-requires
put_axis-requires c =
    let (order, segments, axes, cells, room) = c.requires in
    let path = c.args.path in
    let coeffs = c.args.coeffs.now in
    let line = c.put_table_line.ensures in
    let all = fits path coeffs c.args.out.now c.new-page.result c.requires c.new-page.ensures.as_lent c.new-page.ensures.at_start in (
      order,
      le_trans (mul-le-mul_right (path.order + 1) (part_inside path.segments c.loop-axis-test.true)) cells,
      part_room (axis_lines path coeffs) c.loop-axis.axis c.loop-axis.invariant path.axes c.loop-axis-test.true
          (omega (arith, all, line.place, line.same_length)),
    )

pub loop-axis-preserved : goal.loop-axis-preserved
loop-axis-preserved c = wrote_part (axis_lines c.args.path c.args.coeffs.now) c.loop-axis.axis c.loop-axis.invariant refl c.put_axis.ensures

pub returns : goal.returns
unfolding table_output
returns c =
    let lines = wrote_parts (axis_lines c.args.path c.args.coeffs.now) c.loop-axis.axis c.loop-axis.invariant c.loop-axis.auto.axis-end c.loop-axis-test.false in
    let w = wrote_all c.new-page.ensures.as_lent c.new-page.ensures.at_start (wrote_both c.put_table_line.ensures lines) in
    (w.0, search rules ∙ w.1)
