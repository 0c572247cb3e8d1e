-- The start list, and then the end list. Assumes nothing.
use Rattle.std.proofs.lemmas.Result.{err_from_is_err_and}
use Rattle.rules.specs.Sheets.{states}
use Rattle.rules.specs.SheetReading.{read_states}
use Rattle.sheet_axis.proofs.Joins.{pair_fails, pair_stops}
use Rattle.sheet_axis.proofs.Parts.{states_read}
use Rattle.sheet_axis.proofs.states.Goals as goal

pub returns-in_err-first-clause-says : goal.returns-in_err-first-clause-says
unfolding read_states
returns-in_err-first-clause-says c =
    let here = c.args.cursor.now in
    let p = err_from_is_err_and c.from_residual.result c.from_residual.ensures.1 in
    rw (p.1, p.2) (pair_fails states _ _ here.text.now here.at _ c.in_err-first.ensures.says)

pub returns-in_err-last-clause-says : goal.returns-in_err-last-clause-says
unfolding read_states
returns-in_err-last-clause-says c =
    let here = c.args.cursor.now in
    let p = err_from_is_err_and c.from_residual-in_err-last.result c.from_residual-in_err-last.ensures.1 in
    let l = c.in_ok-first.ensures in
    rw (p.1, p.2)
    (pair_stops states _ _ here.text.now here.at l.says.items _ l.says.reads _ (rw l.same at c.in_err-last.ensures.says))

pub returns-clause-says : goal.returns-clause-says
returns-clause-says c =
    let a = c.args in
    let here = a.cursor.now in
    let l = c.in_ok-first.ensures in
    states_read here.text.now here.at a.start.now a.end.now _ _ _ l.says _ _ _ (rw l.same at c.in_ok-last.ensures.says)
