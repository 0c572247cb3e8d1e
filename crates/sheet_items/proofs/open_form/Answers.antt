-- By the depth and the heading. Assumes nothing.
use Rattle.std.proofs.Common.{arith}
use Rattle.sheet_items.proofs.Follow.{open_deep, open_says}
use Rattle.sheet_items.proofs.open_form.Goals as goal

pub returns-then-depth-ge-MOST_DEEP-clause-says : goal.returns-then-depth-ge-MOST_DEEP-clause-says
returns-then-depth-ge-MOST_DEEP-clause-says c =
    let here = c.args.cursor.now in
    open_deep here.text.now here.at c.args.depth here.inside c.requires (omega (arith, c.if-depth-ge-MOST_DEEP.true)) here.at

pub returns-clause-says : goal.returns-clause-says
returns-clause-says c =
    let here = c.args.cursor.now in
    let h = c.head.ensures in
    open_says here.text.now here.at c.args.depth here.inside c.requires (omega (arith, c.if-depth-ge-MOST_DEEP.false)) c.head.new.cursor.at
    (rw h.same at c.head.new.cursor.inside) c.head.result h.says h.inside h.small
