-- An item is by how it begins; a list is by what follows each item. Assumes nothing.
use Rattle.std.proofs.Common.{refl, sym, arith, ◌∙◌}
use Rattle.std.proofs.lemmas.Result.{err_from_is_err_and}
use Rattle.sheet_items.proofs.Forms.{number_is, form_stops, form_is}
use Rattle.sheet_items.proofs.Follow.{open_number, open_bracket}
use Rattle.sheet_items.proofs.Lists.{at_start_lem, stopped, faulty, closed, one_more}
use Rattle.sheet_items.proofs.+item_list.Goals as goal

pub item-form-end-requires : goal.item-form-end-requires
item-form-end-requires t c =
    let here = c.args.cursor.now in
    let bracket = open_bracket here.text.now here.at c.args.depth here.inside c.byte.result c.byte.ensures (sym c.ne.ensures ∙ c.if-ne.false) in
    (omega arith, (bracket, c.requires.0, c.requires.1))

pub item-returns-then-ne-clause-says : goal.item-returns-then-ne-clause-says
item-returns-then-ne-clause-says t c =
    let a = c.args in
    let here = a.cursor.now in
    number_is here.text.now here.at a.depth a.out.now a.at
    (open_number here.text.now here.at a.depth here.inside c.byte.result c.byte.ensures (sym c.ne.ensures ∙ c.if-ne.true))
    c.number_item.new.cursor.at c.number_item.result c.number_item.new.out c.number_item.ensures.says

pub form-returns-in_err-inner-clause-says : goal.form-returns-in_err-inner-clause-says
form-returns-in_err-inner-clause-says t c =
    let a = c.args in
    let here = a.cursor.now in
    let p = err_from_is_err_and c.from_residual-in_err-inner.result c.from_residual-in_err-inner.ensures.1 in
    rw (p.1, p.2)
    (form_stops here.text.now here.at a.depth a.out.now a.at c.open_form.new.cursor.at c.in_ok-times.times c.in_ok-times.ensures.says _
    (rw c.open_form.ensures.same at c.in_err-inner.ensures.says))

pub form-returns-clause-says : goal.form-returns-clause-says
form-returns-clause-says t c =
    let a = c.args in
    let here = a.cursor.now in
    form_is here.text.now here.at a.depth a.out.now a.at c.open_form.new.cursor.at c.in_ok-times.times c.in_ok-times.ensures.says (omega arith) _ _ _ _
    (rw c.open_form.ensures.same at c.in_ok-inner.ensures.says) _ _ c.repeat.ensures

pub items-loop-numbers-init : goal.items-loop-numbers-init
items-loop-numbers-init t c =
    let a = c.args in
    let here = a.cursor.now in
    record {
      same = refl;
      room = refl;
      sofar = at_start_lem here.text.now here.at a.depth a.out.now a.at (omega arith) here.inside here.at;
    }

pub items-returns-in_err-numbers-clause-says : goal.items-returns-in_err-numbers-clause-says
items-returns-in_err-numbers-clause-says t c =
    let a = c.args in
    let here = a.cursor.now in
    let l = c.loop-numbers in
    let p = err_from_is_err_and c.from_residual.result c.from_residual.ensures.1 in
    rw (p.1, p.2)
    (stopped here.text.now here.at a.depth a.out.now a.at (omega arith) l.cursor.at l.numbers l.over l.out l.invariant.sofar _
    (rw l.invariant.same at c.in_err-numbers.ensures.says))

pub items-returns-in_err-more-clause-says : goal.items-returns-in_err-more-clause-says
items-returns-in_err-more-clause-says t c =
    let a = c.args in
    let here = a.cursor.now in
    let l = c.loop-numbers in
    let p = err_from_is_err_and c.from_residual-in_err-more.result c.from_residual-in_err-more.ensures.1 in
    rw (p.1, p.2)
    (faulty here.text.now here.at a.depth a.out.now a.at (omega arith) l.cursor.at l.numbers l.over l.out l.invariant.sofar _ _ _
    (rw l.invariant.same at c.in_ok-numbers.ensures.says) c.more.new.cursor.at _
    (rw (c.item.ensures.same, l.invariant.same) at c.in_err-more.ensures.says))

pub items-loop-numbers-preserved : goal.items-loop-numbers-preserved
items-loop-numbers-preserved t c =
    let a = c.args in
    let here = a.cursor.now in
    let l = c.loop-numbers in
    record {
      same = c.more.ensures.same ∙ c.item.ensures.same ∙ l.invariant.same;
      room = c.item.auto.out ∙ l.invariant.room;
      sofar = one_more here.text.now here.at a.depth a.out.now a.at (omega arith) l.cursor.at l.numbers l.over l.out l.invariant.sofar _ _ _
          (rw l.invariant.same at c.in_ok-numbers.ensures.says) _ c.later-over.ensures _
          (rw (c.if-not-branch.false, c.item.ensures.same, l.invariant.same) at c.in_ok-more.ensures.says);
    }

pub items-returns-then-not-branch-clause-says : goal.items-returns-then-not-branch-clause-says
items-returns-then-not-branch-clause-says t c =
    let a = c.args in
    let here = a.cursor.now in
    let l = c.loop-numbers in
    closed here.text.now here.at a.depth a.out.now a.at (omega arith) l.cursor.at l.numbers l.over l.out l.invariant.sofar _ _ _
    (rw l.invariant.same at c.in_ok-numbers.ensures.says) _ c.later-over.ensures _
    (rw (c.if-not-branch.true, c.item.ensures.same, l.invariant.same) at c.in_ok-more.ensures.says)
