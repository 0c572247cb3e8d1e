-- `sheet_lines::put_table_line` meets its contract: its parts, one after the other, are the line. Assumes nothing.
use Rattle.sheet_lines.proofs.Lengths.{table_line_parts}
use Rattle.sheet_bits.proofs.Writing.{wrote_both, wrote_as}
use Rattle.sheet_lines.proofs.put_table_line.Goals as goal

pub returns : goal.returns
returns c =
    wrote_as (table_line_parts c.args.path)
    (wrote_both c.put_number.ensures (wrote_both c.put_number-2.ensures (wrote_both c.put_number-3.ensures c.put_bytes.ensures)))
