use Rattle.rules.specs.Build.{segment_coefficients}
use Rattle.build_segments.proofs.SegmentCells.{assembled}
use Rattle.build_segments.proofs.write_segment_coeffs.Goals as goal

pub returns : goal.returns
unfolding segment_coefficients
returns c =
    let a = c.args in
    rw (c.copy_few.ensures, c.upper_coeffs.ensures) (assembled a.m a.y a.out.now a.u0.now _ c.requires.4 c.requires.2)
