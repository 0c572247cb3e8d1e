-- The first columns are there, and `out` has its own cells from there on. A turn lends the part for a column. Assumes nothing.
use Rattle.law_lists.specs.Lists.{listed}
use Rattle.law_lists.proofs.PartedList.{Parted}
use Rattle.sheet_columns.specs.Columns.{number_at}
use Rattle.sheet_columns.proofs.Lists.transpose.Given as goal

abbrev pub invariant-loop-k : goal.invariant-loop-k
invariant-loop-k l = Parted l.self.rows l.k (λ k. listed l.self.rows (number_at l.self.stride l.self.buffer.now k)) l.fn.out l.out
