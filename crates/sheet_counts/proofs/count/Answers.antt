-- Past 64 it is 600 at the digit. Assumes nothing.
use Rattle.rules.specs.SheetReading as reading
use Rattle.sheet_numbers.specs.Says.{PositiveSays}
use Rattle.sheet_counts.proofs.Readings.{no_count}
use Rattle.sheet_counts.proofs.count.Goals as goal

pub returns-in-Ok-clause-says : goal.returns-in-Ok-clause-says
unfolding PositiveSays
returns-in-Ok-clause-says c = c.in-Ok.ensures.says (λ r. reading.stop 600 r)

pub returns-in-Err-clause-says : goal.returns-in-Err-clause-says
returns-in-Err-clause-says c =
    rw c.invalid_sheet.ensures (no_count c.args.cursor.now.text.now c.args.cursor.now.at c.positive.new.cursor.at _ c.in-Err.ensures.says)
