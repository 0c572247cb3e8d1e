-- `sheet_print::print_sheet` meets its contract: refused where a buffer is too short, else built and printed. Assumes nothing.
use Rattle.sheet_print.proofs.Printed.{too_few_cells, too_few_bytes, printed, may_print}
use Rattle.sheet_print.proofs.print_sheet.Goals as goal

pub returns-then-coeffs-lt-MOST_CELLS : goal.returns-then-coeffs-lt-MOST_CELLS
returns-then-coeffs-lt-MOST_CELLS c = too_few_cells c.args.text.now c.args.coeffs.now c.args.out.now c.if-coeffs-lt-MOST_CELLS.true

pub returns-then-out-lt-MOST_BYTES : goal.returns-then-out-lt-MOST_BYTES
returns-then-out-lt-MOST_BYTES c = too_few_bytes c.args.text.now c.args.coeffs.now c.args.out.now c.if-out-lt-MOST_BYTES.true

pub write_answer-requires : goal.write_answer-requires
write_answer-requires c = (
  c.if-out-lt-MOST_BYTES.false,
  may_print c.args.text.now c.args.coeffs.now c.if-coeffs-lt-MOST_CELLS.false _ _ c.build_sheet-answer.ensures c.build_sheet-answer.auto.coeffs,
)

pub returns : goal.returns
returns c =
    printed c.args.text.now c.args.coeffs.now c.args.out.now c.if-coeffs-lt-MOST_CELLS.false c.if-out-lt-MOST_BYTES.false _ _ c.build_sheet-answer.ensures
    _ _ c.write_answer.ensures
