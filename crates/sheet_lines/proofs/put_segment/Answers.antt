-- `sheet_lines::put_segment` meets its contract: its parts, one after the other, are the line. Assumes nothing.
use Rattle.sheet_lines.proofs.Lengths.{line_parts}
use Rattle.sheet_bits.proofs.Writing.{wrote_both, wrote_as}
use Rattle.sheet_lines.proofs.put_segment.Goals as goal

pub returns : goal.returns
returns c =
    wrote_as (line_parts c.args.axis c.args.segment c.args.coeffs.now)
    (wrote_both c.put_number.ensures (wrote_both c.put_number-2.ensures (wrote_both c.put_coefficients.ensures c.put_bytes.ensures)))
