-- The digits after the first are read on from its worth. Assumes nothing.
use Rattle.std.proofs.Common.{sym, ◌∙◌}
use Rattle.sheet_decimals.specs.Says.{DigitsSay}
use Rattle.sheet_numbers.specs.Says.{PositiveSays}
use Rattle.sheet_numbers.proofs.Readings.{positive_end, positive_other, positive_on}
use Rattle.sheet_numbers.proofs.positive.Goals as goal

pub returns-in-Some-clause-says : goal.returns-in-Some-clause-says
unfolding DigitsSay PositiveSays
returns-in-Some-clause-says c =
    let here = c.args.cursor.now in
    let byte = sym c.byte.ensures ∙ c.in-Some.is in
    let first = sym c.digit_from.ensures.is ∙ c.if-digit_from.true in
    λ over. c.digits.ensures.says over ∙ rw c.from.ensures (sym (positive_on c.args.limit over here.text.now here.at c.in-Some.b byte first))

pub returns-in_default-clause-says : goal.returns-in_default-clause-says
unfolding PositiveSays
returns-in_default-clause-says c =
    let here = c.args.cursor.now in
    let byte = sym c.byte.ensures ∙ c.in-Some.is in
    let other = sym c.digit_from.ensures.is ∙ c.if-digit_from.false in
    λ over. sym (positive_other c.args.limit over here.text.now here.at c.in-Some.b byte other)

pub returns-in_default-2-clause-says : goal.returns-in_default-2-clause-says
unfolding PositiveSays
returns-in_default-2-clause-says c =
    let here = c.args.cursor.now in
    λ over. sym (positive_end c.args.limit over here.text.now here.at (sym c.byte.ensures ∙ c.in_default.is))
