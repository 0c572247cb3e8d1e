-- What falls is four times the bytes left, and up to three more by how far the routine is from a form. Assumes nothing.
use Rattle.std.proofs.Common.{◌≡◌, ◌+◌, ◌-◌, ◌*◌, length}
use Rattle.sheet_items.proofs.Lists.{Sofar}
use Rattle.sheet_items.proofs.+item_list.Given as goal

abbrev pub decreases-form : goal.decreases-form
decreases-form l = 4 * (length l.cursor.now.text.now - l.cursor.now.at)

abbrev pub decreases-item : goal.decreases-item
decreases-item l = 4 * (length l.cursor.now.text.now - l.cursor.now.at) + 1

abbrev pub decreases-items : goal.decreases-items
decreases-items l = 4 * (length l.cursor.now.text.now - l.cursor.now.at) + 2

abbrev pub decreases-list : goal.decreases-list
decreases-list l = 4 * (length l.cursor.now.text.now - l.cursor.now.at) + 3

abbrev pub invariant-items-loop-numbers : goal.invariant-items-loop-numbers
invariant-items-loop-numbers l =
    let from = l.fn.cursor in
    record {
      same : l.cursor.text.now ≡ from.text.now;
      room : length l.out ≡ length l.fn.out;
      sofar : Sofar from.text.now from.at l.fn.depth l.fn.out l.fn.at l.cursor.at l.numbers l.over l.out;
    }

abbrev pub decreases-items-loop-numbers : goal.decreases-items-loop-numbers
decreases-items-loop-numbers l = length l.cursor.text.now - l.cursor.at
