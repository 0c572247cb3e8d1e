-- The heading, and then the axes. Assumes nothing.
use Rattle.std.proofs.lemmas.Result.{err_from_is_err_and}
use Rattle.rules.specs.Sheets.{sheet}
use Rattle.rules.specs.SheetReading.{read_sheet}
use Rattle.sheet_axis.proofs.Joins.{pair_fails}
use Rattle.sheet_reader.proofs.Whole.{stops_whole, axes_stop, sized_whole, read_whole}
use Rattle.sheet_reader.proofs.read_whole.Goals as goal

pub returns-in_err-first : goal.returns-in_err-first
unfolding read_sheet
returns-in_err-first c =
    let p = err_from_is_err_and c.from_residual.result c.from_residual.ensures.1 in
    let text = c.args.text.now in
    rw (p.1, p.2) (stops_whole text _ (pair_fails sheet _ _ text 0 _ c.in_err-first.ensures.says))

pub returns-in_err-rest : goal.returns-in_err-rest
returns-in_err-rest c =
    let p = err_from_is_err_and c.from_residual-in_err-rest.result c.from_residual-in_err-rest.ensures.1 in
    let first = c.in_ok-first.ensures in
    rw (p.1, p.2) (axes_stop first.says first.same c.in_err-rest.ensures.says)

pub returns-in-Some : goal.returns-in-Some
returns-in-Some c =
    let first = c.in_ok-first.ensures in
    sized_whole c.args.text.now _ _ first.says c.in_ok-rest.rest _ _ _ (rw first.same at c.in_ok-rest.ensures.says) _ c.in-Some.is

pub returns-in-None : goal.returns-in-None
returns-in-None c =
    let first = c.in_ok-first.ensures in
    read_whole c.args.text.now _ _ first.says c.in_ok-rest.rest _ _ _ (rw first.same at c.in_ok-rest.ensures.says) c.in-None.is
