-- Assumes nothing.
use Rattle.fused_words.proofs.Shift.{word_gone}
use Rattle.fused_words.proofs.shifted_word.Goals as goal

pub returns-else-n-lt64 : goal.returns-else-n-lt64
returns-else-n-lt64 c =
    word_gone c.args.x c.args.n c.marked-else-n-lt64.result c.ranges.x.fits c.if-n-lt64.false c.marked-else-n-lt64.ensures
