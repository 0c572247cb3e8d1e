-- `sheet_output::put_axis` meets its contract. Assumes nothing.
use mathlib.Core.Path.{◌≡◌, ap}
use mathlib.Core.List.{List}
use Prim.Native.Nat.{ℕ, ◌+◌, ◌-◌, ◌*◌}
use native.Mathlib.Omega.{arith}
use lib.ListN.{length, take, drop}
use lib.Ieee.{Float}
use Rattle.law_lists.specs.Lists.{joined}
use Rattle.law_lists.proofs.Lent.{part_size}
use Rattle.rules.specs.declared.PathRecord.{PathRecord}
use Rattle.rules.specs.SheetAnswers.{seg_line, segment}
use Rattle.sheet_bits.proofs.Writing.{wrote_none, wrote_part, part_room}
use Rattle.sheet_output.proofs.put_axis.Goals as goal

-- a segment's line
abbrev line : PathRecord → List Float → ℕ → ℕ → List ℕ
line path coeffs axis i = seg_line axis i (segment path coeffs axis i)

-- the part that is lent has the line's coefficients
lent : (path : PathRecord) (coeffs : List Float) (axis i : ℕ)
    → let cells = path.order + 1 in
    let from = (axis * path.segments + i) * cells in seg_line axis i (take (from + cells - from) (drop from coeffs)) ≡ line path coeffs axis i
lent path coeffs axis i = ap (seg_line axis i) (part_size ((axis * path.segments + i) * (path.order + 1)) (path.order + 1) coeffs)

pub loop-segment-init : goal.loop-segment-init
unfolding joined
loop-segment-init c = wrote_none _ (omega arith)

pub put_segment-requires : goal.put_segment-requires
put_segment-requires c =
    let a = c.args in
    let i = c.loop-segment.segment in
    omega (
      arith,
      ap length (lent a.path a.coeffs.now a.axis i),
      part_room (line a.path a.coeffs.now a.axis) i c.loop-segment.invariant a.path.segments c.loop-segment-test.true c.requires.2,
    )

pub loop-segment-preserved : goal.loop-segment-preserved
loop-segment-preserved c =
    let a = c.args in
    let i = c.loop-segment.segment in
    wrote_part (line a.path a.coeffs.now a.axis) i c.loop-segment.invariant (lent a.path a.coeffs.now a.axis i) c.put_segment.ensures
