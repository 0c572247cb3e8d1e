-- The column's first cells are there, and `out` has its own from there on. Assumes nothing.
use Rattle.rules.proofs.FilledList.{Filled}
use Rattle.sheet_columns.specs.Columns.{number_at}
use Rattle.sheet_columns.proofs.Lists.column.Given as goal

abbrev pub invariant-loop-a : goal.invariant-loop-a
invariant-loop-a l = Filled l.a (number_at l.self.stride l.self.buffer.now l.k) l.fn.out l.out
