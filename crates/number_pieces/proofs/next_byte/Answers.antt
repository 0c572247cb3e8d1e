-- Assumes nothing.
use Rattle.std.proofs.Common.{sym, ◌∙◌}
use Rattle.number_pieces.proofs.Bytes.{one_none, one_here}
use Rattle.number_pieces.proofs.next_byte.Goals as goal

pub returns-then-bytes-at : goal.returns-then-bytes-at
returns-then-bytes-at c = sym (one_none _ _ _ c.if-bytes-at.true)

pub returns : goal.returns
returns c = c.with_byte.ensures ∙ sym (one_here _ _ _ c.if-bytes-at.false)
