-- `sheet_lines::write_refused` meets its contract: its parts, one after the other, are the line. Assumes nothing.
use mathlib.Core.Path.{◌∙◌}
use borrow.Author.Rules.{rules}
use Rattle.sheet_lines.proofs.Lengths.{refusal_parts}
use Rattle.sheet_bits.proofs.Writing.{wrote_both, wrote_as, wrote_all}
use Rattle.sheet_lines.proofs.write_refused.Goals as goal

pub returns : goal.returns
returns c =
    let w =
    wrote_all c.new-page.ensures.as_lent c.new-page.ensures.at_start
    (wrote_as (refusal_parts c.args.number c.args.at)
    (wrote_both c.put_number.ensures (wrote_both c.put_number-2.ensures c.put_bytes.ensures))) in
    (w.0, search rules ∙ w.1)
