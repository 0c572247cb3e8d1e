-- The fixed bytes, and then the number. Assumes nothing.
use Rattle.std.proofs.lemmas.Result.{err_from_is_err_and}
use Rattle.sheet_axis.proofs.Joins.{word_reads, lead_fails}
use Rattle.sheet_heading.proofs.FirstLines.{led_says}
use Rattle.sheet_heading.proofs.led_number.Goals as goal

pub returns-in_err-word-clause-says : goal.returns-in_err-word-clause-says
returns-in_err-word-clause-says c =
    let here = c.args.cursor.now in
    let p = err_from_is_err_and c.from_residual.result c.from_residual.ensures.1 in
    let w = c.in_err-word.ensures in
    rw (p.1, p.2) (lead_fails c.args.w.now _ here.text.now here.at _ w.says w.inside)

pub returns-clause-says : goal.returns-clause-says
returns-clause-says c =
    let here = c.args.cursor.now in
    let w = c.in_ok-word.ensures in
    let within = rw w.same at c.word.new.cursor.inside in
    let n = rw w.same at c.number.ensures.says in
    let after = rw (c.number.ensures.same, w.same) at c.number.new.cursor.inside in
    led_says here.text.now c.args.w.now here.at here.inside c.word.new.cursor.at (word_reads here.text.now c.args.w.now here.at _ w.says within)
    c.number.new.cursor.at after c.number.result n (rw w.same at c.number.ensures.inside) c.number.ensures.small
