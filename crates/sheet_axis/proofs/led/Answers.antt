-- The fixed bytes, and then the list. Assumes nothing.
use Rattle.std.proofs.lemmas.Result.{err_from_is_err_and}
use Rattle.sheet_axis.proofs.Joins.{word_reads, lead_fails}
use Rattle.sheet_axis.proofs.Parts.{led_says}
use Rattle.sheet_axis.proofs.led.Goals as goal

pub returns-in_err-word-clause-says : goal.returns-in_err-word-clause-says
returns-in_err-word-clause-says c =
    let here = c.args.cursor.now in
    let p = err_from_is_err_and c.from_residual.result c.from_residual.ensures.1 in
    let w = c.in_err-word.ensures in
    rw (p.1, p.2) (lead_fails c.args.w.now _ here.text.now here.at _ w.says w.inside)

pub returns-clause-says : goal.returns-clause-says
returns-clause-says c =
    let here = c.args.cursor.now in
    let w = c.in_ok-word.ensures in
    let within = rw w.same at c.word.new.cursor.inside in
    led_says here.text.now c.args.w.now here.at c.args.out.now here.inside c.word.new.cursor.at
    (word_reads here.text.now c.args.w.now here.at _ w.says within) _ _ _ (rw w.same at c.list.ensures.says)
