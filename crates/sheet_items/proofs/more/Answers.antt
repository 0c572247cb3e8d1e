-- By the byte that follows. Assumes nothing.
use Rattle.sheet_items.proofs.Follow.{follow_close, follow_item, follow_other}
use Rattle.sheet_items.proofs.more.Goals as goal

pub returns-then-eat-clause-says : goal.returns-then-eat-clause-says
returns-then-eat-clause-says c =
    let here = c.args.cursor.now in
    let (space, after) = c.if-eat.ensures.says in
    rw after (follow_item here.text.now here.at here.inside space)

pub returns-then-eat-2-clause-says : goal.returns-then-eat-2-clause-says
returns-then-eat-2-clause-says c =
    let here = c.args.cursor.now in
    let none = c.if-eat.ensures in
    let (bracket, after) = rw (none.same, none.says.1) at c.if-eat-2.ensures.says in
    rw after (follow_close here.text.now here.at here.inside bracket)

pub returns-clause-says : goal.returns-clause-says
returns-clause-says c =
    let here = c.args.cursor.now in
    let none = c.if-eat.ensures in
    let (other, after) = rw (none.same, none.says.1) at c.if-eat-2.ensures.says in
    rw (c.invalid_sheet.ensures, after) (follow_other here.text.now here.at here.inside none.says.0 other)
