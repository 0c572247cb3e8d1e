-- By the byte at the place. Assumes nothing.
use Rattle.std.proofs.Common.{drop, sym, ap, ◌∙◌, arith}
use Rattle.std.proofs.lemmas.Result.{err_from_is_err_and}
use Rattle.rules.specs.SheetReading as reading
use Rattle.sheet_numbers.proofs.Readings.{number_end, number_zero, number_minus, number_plain, number_stop, kept_minus}
use Rattle.sheet_numbers.proofs.number.Goals as goal

pub returns-in_default-clause-says : goal.returns-in_default-clause-says
returns-in_default-clause-says c =
    let here = c.args.cursor.now in
    rw c.invalid_sheet.ensures (sym (number_end here.text.now here.at (sym c.byte.ensures ∙ c.in_default.is)))

pub returns-in_err-size-in-45-clause-says : goal.returns-in_err-size-in-45-clause-says
returns-in_err-size-in-45-clause-says c =
    let here = c.args.cursor.now in
    let byte = rw c.in-45.is at (sym c.byte.ensures ∙ c.in-Some.is) in
    let p = err_from_is_err_and c.from_residual.result c.from_residual.ensures.1 in
    rw (p.1, p.2) (number_stop here.text.now here.at byte _ c.in_err-size-in-45.ensures.says)

pub returns-in_ok-size-in-45-clause-says : goal.returns-in_ok-size-in-45-clause-says
returns-in_ok-size-in-45-clause-says c =
    let here = c.args.cursor.now in
    let byte = rw c.in-45.is at (sym c.byte.ensures ∙ c.in-Some.is) in
    let size = c.in_ok-size-in-45 in
    ap (λ z. reading.got z (drop c.plain.new.cursor.at here.text.now)) (kept_minus size.size size.ensures.small)
    ∙ number_minus here.text.now here.at byte _ _ size.ensures.says

pub returns-in-48-clause-says : goal.returns-in-48-clause-says
returns-in-48-clause-says c =
    let here = c.args.cursor.now in
    sym (number_zero here.text.now here.at (rw c.in-48.is at (sym c.byte.ensures ∙ c.in-Some.is)))

pub returns-in_default-b-clause-says : goal.returns-in_default-b-clause-says
returns-in_default-b-clause-says c =
    let here = c.args.cursor.now in
    c.plain-in_default-b.ensures.says
    ∙ sym (number_plain here.text.now here.at c.in-Some.b (sym c.byte.ensures ∙ c.in-Some.is) (λ e. omega arith) (λ e. omega arith))
