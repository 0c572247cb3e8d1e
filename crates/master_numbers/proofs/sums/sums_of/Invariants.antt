-- r times were done, to the places 0 to r − 1.
use Rattle.master_numbers.proofs.Horner.{Shifted}
use Rattle.master_numbers.proofs.sums.sums_of.Given as goal

abbrev pub invariant-loop-r : goal.invariant-loop-r
invariant-loop-r g l = Shifted g.row.M l.table l.i l.r l.b
