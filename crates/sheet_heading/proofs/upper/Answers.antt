-- The number, and the end of the line. Assumes nothing.
use Rattle.std.proofs.lemmas.Result.{err_from_is_err_and}
use Rattle.rules.specs.Sheets.{bytes}
use Rattle.rules.specs.SheetReading.{read_upper}
use Rattle.sheet_numbers.proofs.Readings.{near_kept}
use Rattle.sheet_axis.proofs.Joins.{word_reads, word_stops, pair_fails, pair_stops}
use Rattle.sheet_heading.proofs.FirstLines.{upper_closed}
use Rattle.sheet_heading.proofs.upper.Goals as goal

pub returns-in_err-to-clause-says : goal.returns-in_err-to-clause-says
unfolding read_upper
returns-in_err-to-clause-says c =
    let here = c.args.cursor.now in
    let p = err_from_is_err_and c.from_residual.result c.from_residual.ensures.1 in
    rw (p.1, p.2) (pair_fails (λ z u. z) _ _ here.text.now here.at _ c.in_err-to.ensures.says)

pub returns-in_err-word-clause-says : goal.returns-in_err-word-clause-says
unfolding read_upper
returns-in_err-word-clause-says c =
    let here = c.args.cursor.now in
    let p = err_from_is_err_and c.from_residual-in_err-word.result c.from_residual-in_err-word.ensures.1 in
    let l = c.in_ok-to.ensures in
    let w = rw l.same at c.in_err-word.ensures.says in
    let within = rw l.same at c.in_err-word.ensures.inside in
    rw (p.1, p.2) (pair_stops (λ z u. z) _ _ here.text.now here.at _ _ l.says.reads _ (word_stops here.text.now (bytes ")\n") _ _ w within))

pub returns-clause-says : goal.returns-clause-says
returns-clause-says c =
    let here = c.args.cursor.now in
    let l = c.in_ok-to.ensures in
    let w = rw l.same at c.in_ok-word.ensures.says in
    let within = rw (c.in_ok-word.ensures.same, l.same) at c.word.new.cursor.inside in
    rw (near_kept _ l.says.near) (upper_closed here.text.now here.at _ _ l.says _ (word_reads here.text.now (bytes ")\n") _ _ w within))
