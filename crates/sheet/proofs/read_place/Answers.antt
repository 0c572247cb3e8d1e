-- What was read is asked, or refused. Assumes nothing.
use Rattle.std.proofs.Common.{Ok, Err}
use Rattle.std.proofs.lemmas.Result.{err_from_is_err_and}
use Rattle.sheet.proofs.Answers.{it_is_readable, it_is_refused, place_read, place_refused}
use Rattle.sheet.proofs.read_place.Goals as goal

pub returns-in_err-numbers : goal.returns-in_err-numbers
returns-in_err-numbers c =
    let p = err_from_is_err_and c.from_residual.result c.from_residual.ensures.1 in
    rw (p.1, p.2) (place_refused c.args.text.now _ (it_is_refused _ _ _ _ _ c.in_err-numbers.ensures))

pub returns-in-Ok : goal.returns-in-Ok
returns-in-Ok c =
    let r = it_is_readable _ _ _ _ _ c.in_ok-numbers.ensures in
    place_read c.args.text.now (Ok c.in-Ok.field-0) r.«sheet» r.is (c.in-Ok.ensures r.«sheet» r.read)

pub returns-in-Err : goal.returns-in-Err
returns-in-Err c =
    let r = it_is_readable _ _ _ _ _ c.in_ok-numbers.ensures in
    place_read c.args.text.now (Err c.in-Err.cause) r.«sheet» r.is (c.in-Err.ensures r.«sheet» r.read)
