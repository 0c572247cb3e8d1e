-- Past the limit it is 4 at the start. Assumes nothing.
use Rattle.std.proofs.Common.{arith, drop, w64}
use Rattle.std.proofs.lemmas.Int.{to_z_pos}
use Rattle.rules.specs.SheetReading as reading
use Rattle.sheet_numbers.specs.Says.{PositiveSays}
use Rattle.sheet_numbers.proofs.Readings.{plain_is}
use Rattle.sheet_numbers.proofs.plain.Goals as goal

pub returns-in-Ok-clause-says : goal.returns-in-Ok-clause-says
unfolding PositiveSays reading.then
returns-in-Ok-clause-says c =
    let text = c.args.cursor.now.text.now in
    rw (to_z_pos w64 c.in-Ok.n (omega (arith, c.in-Ok.ensures.small.1)))
    (plain_is text c.args.start c.args.cursor.now.at _ (c.in-Ok.ensures.says (λ r. reading.stop 4 (drop c.args.start text))))

pub returns-in-Err-Missing-clause-says : goal.returns-in-Err-Missing-clause-says
unfolding PositiveSays reading.then
returns-in-Err-Missing-clause-says c =
    let text = c.args.cursor.now.text.now in
    let m = c.in-Err-Missing in
    rw c.invalid_sheet.ensures
    (plain_is text c.args.start c.args.cursor.now.at _ (rw m.field-0-is at (m.ensures.says (λ r. reading.stop 4 (drop c.args.start text)))))

pub returns-in-Err-Over-clause-says : goal.returns-in-Err-Over-clause-says
unfolding PositiveSays reading.then
returns-in-Err-Over-clause-says c =
    let text = c.args.cursor.now.text.now in
    let o = c.in-Err-Over in
    plain_is text c.args.start c.args.cursor.now.at _ (rw o.field-0-is at (o.ensures.says (λ r. reading.stop 4 (drop c.args.start text))))
