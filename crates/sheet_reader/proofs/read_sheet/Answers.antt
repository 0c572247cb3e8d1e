-- By the length of the text. Assumes nothing.
use Rattle.std.proofs.Common.{arith}
use Rattle.std.proofs.lemmas.Result.{err_from_is_err_and}
use lib.ListN.{length-take}
use Rattle.sheet_reader.proofs.Whole.{short_read, short_stop, long_read, long_stop}
use Rattle.sheet_reader.proofs.read_sheet.Goals as goal

pub slice_bounds-read_whole-end : goal.slice_bounds-read_whole-end
slice_bounds-read_whole-end c = omega (arith, length-take 32768 c.args.text.now)

pub returns-in_err-_sized : goal.returns-in_err-_sized
returns-in_err-_sized c =
    let p = err_from_is_err_and c.from_residual.result c.from_residual.ensures.1 in
    rw (p.1, p.2) (long_stop c.args.text.now (omega arith) _ _ _ _ c.in_err-_sized.ensures)

pub returns-then-text-gt-LONGEST : goal.returns-then-text-gt-LONGEST
returns-then-text-gt-LONGEST c =
    rw c.invalid_sheet.ensures (long_read c.args.text.now (omega arith) _ _ _ c.in_ok-_sized._sized c.in_ok-_sized.ensures)

pub returns-in_err-read_whole : goal.returns-in_err-read_whole
returns-in_err-read_whole c =
    let p = err_from_is_err_and c.from_residual-in_err-read_whole.result c.from_residual-in_err-read_whole.ensures.1 in
    rw (p.1, p.2) (short_stop c.args.text.now (omega arith) _ _ _ _ c.in_err-read_whole.ensures)

pub returns : goal.returns
returns c = short_read c.args.text.now (omega arith) _ _ _ c.in_ok-read_whole.field-0 c.in_ok-read_whole.ensures
