-- Assumes nothing.
use Rattle.std.proofs.Common.{arith, le_of_lt, zero-add}
use mir.Facts.{Fits-bits}
use Rattle.fused_words.proofs.Shift.{moved_lt, words_shifted, high_shifted}
use Rattle.fused_words.proofs.Words.shifted.Goals as goal

pub overflow_add-low : goal.overflow_add-low
overflow_add-low c = Fits-bits 64 tt (moved_lt c.args.self.high c.args.self.low c.args.n (le_of_lt c.if-n-lt64.true) (omega arith))

pub returns-then-n-lt64 : goal.returns-then-n-lt64
returns-then-n-lt64 c =
    words_shifted c.args.self.high c.args.self.low c.args.n (le_of_lt c.if-n-lt64.true) (omega arith) c.marked.result c.marked.ensures

pub returns-else-n-lt64 : goal.returns-else-n-lt64
returns-else-n-lt64 c =
    simp zero-add
    (high_shifted c.args.self.high c.args.self.low c.args.n c.marked-else-n-lt64.result c.shifted_word.result
    (omega arith) c.if-n-lt64.false c.marked-else-n-lt64.ensures c.shifted_word.ensures)
