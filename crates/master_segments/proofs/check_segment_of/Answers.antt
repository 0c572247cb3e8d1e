-- The sums of a segment in range can be taken. Assumes nothing.
use Rattle.std.proofs.Common.{arith}
use Rattle.master_segments.proofs.SegmentPart.{fit, summable}
use Rattle.master_segments.proofs.check_segment_of.Goals as goal

pub equations_hold-holds-requires : goal.equations_hold-holds-requires
equations_hold-holds-requires g c =
    let s = c.args.segments in (
      omega arith,
      (c.requires, summable s.shaped c.requires (fit g.row.M s.table.now c.args.i c.if-not-all_within.ensures)),
    )
