-- Three numbers, one after the other. Assumes nothing.
use Rattle.std.proofs.lemmas.Result.{err_from_is_err_and}
use Rattle.rules.specs.Sheets.{heading, range}
use Rattle.rules.specs.SheetReading.{read_range, read_heading}
use Rattle.sheet_numbers.proofs.Readings.{near_kept}
use Rattle.sheet_axis.proofs.Joins.{pair_fails, pair_stops}
use Rattle.sheet_heading.proofs.FirstLines.{all_read}
use Rattle.sheet_heading.proofs.heading.Goals as goal

pub returns-in_err-led_number-clause-says : goal.returns-in_err-led_number-clause-says
unfolding read_heading
returns-in_err-led_number-clause-says c =
    let here = c.args.cursor.now in
    let p = err_from_is_err_and c.from_residual.result c.from_residual.ensures.1 in
    rw (p.1, p.2) (pair_fails heading _ _ here.text.now here.at _ c.in_err-led_number.ensures.says)

pub returns-in_err-led_number-2-clause-says : goal.returns-in_err-led_number-2-clause-says
unfolding read_heading read_range
returns-in_err-led_number-2-clause-says c =
    let text = c.args.cursor.now.text.now in
    let p = err_from_is_err_and c.from_residual-in_err-led_number-2.result c.from_residual-in_err-led_number-2.ensures.1 in
    let o = c.in_ok-led_number.ensures in
    let f = rw o.same at c.in_err-led_number-2.ensures.says in
    rw (p.1, p.2) (pair_stops heading _ _ text c.args.cursor.now.at _ _ o.says.reads _ (pair_fails range _ _ text _ _ f))

pub returns-in_err-upper-clause-says : goal.returns-in_err-upper-clause-says
unfolding read_heading read_range
returns-in_err-upper-clause-says c =
    let text = c.args.cursor.now.text.now in
    let p = err_from_is_err_and c.from_residual-in_err-upper.result c.from_residual-in_err-upper.ensures.1 in
    let o = c.in_ok-led_number.ensures in
    let f = c.in_ok-led_number-2.ensures in
    let reads = rw o.same at f.says.reads in
    let t = rw (f.same, o.same) at c.in_err-upper.ensures.says in
    rw (p.1, p.2) (pair_stops heading _ _ text c.args.cursor.now.at _ _ o.says.reads _ (pair_stops range _ _ text _ _ _ reads _ t))

pub returns-clause-says : goal.returns-clause-says
returns-clause-says c =
    let here = c.args.cursor.now in
    let o = c.in_ok-led_number.ensures in
    let f = rw o.same at c.in_ok-led_number-2.ensures.says in
    let t = rw (c.in_ok-led_number-2.ensures.same, o.same) at c.in_ok-upper.ensures.says in
    rw (
      near_kept c.in_ok-led_number.field-0 o.says.near,
      near_kept c.in_ok-led_number-2.field-0 f.near,
      near_kept c.in_ok-upper.field-0 t.near,
    )
    (all_read here.text.now here.at _ _ o.says _ _ f _ _ t)
