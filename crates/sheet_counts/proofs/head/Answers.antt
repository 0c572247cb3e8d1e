-- The fixed bytes, the count and the space after it. Assumes nothing.
use Rattle.std.proofs.Common.{sym}
use Rattle.std.proofs.lemmas.Result.{err_from_is_err_and}
use Rattle.sheet_counts.proofs.Readings.{head_stop, head_count, head_gap, head_is}
use Rattle.sheet_counts.proofs.head.Goals as goal

pub returns-in_err-word-clause-says : goal.returns-in_err-word-clause-says
returns-in_err-word-clause-says c =
    let p = err_from_is_err_and c.from_residual.result c.from_residual.ensures.1 in
    rw (p.1, p.2) (sym (head_stop _ _ _ (sym c.in_err-word.ensures.says)))

pub returns-in_err-times-clause-says : goal.returns-in_err-times-clause-says
returns-in_err-times-clause-says c =
    let p = err_from_is_err_and c.from_residual-in_err-times.result c.from_residual-in_err-times.ensures.1 in
    let times = rw c.word.ensures.same at c.in_err-times.ensures.says in
    rw (p.1, p.2) (sym (head_count _ _ (sym c.in_ok-word.ensures.says) _ _ (sym times)))

pub returns-in_err-word-2-clause-says : goal.returns-in_err-word-2-clause-says
returns-in_err-word-2-clause-says c =
    let p = err_from_is_err_and c.from_residual-in_err-word-2.result c.from_residual-in_err-word-2.ensures.1 in
    let times = rw c.word.ensures.same at c.in_ok-times.ensures.says in
    let gap = rw (c.count.ensures.same, c.word.ensures.same) at c.in_err-word-2.ensures.says in
    rw (p.1, p.2) (sym (head_gap _ _ (sym c.in_ok-word.ensures.says) _ _ (sym times) _ _ (sym gap)))

pub returns-clause-says : goal.returns-clause-says
returns-clause-says c =
    let times = rw c.word.ensures.same at c.in_ok-times.ensures.says in
    let gap = rw (c.count.ensures.same, c.word.ensures.same) at c.in_ok-word-2.ensures.says in
    sym (head_is _ _ (sym c.in_ok-word.ensures.says) _ _ (sym times) _ (sym gap))
