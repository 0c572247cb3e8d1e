-- The places from k on are added up, and those below are as they were.
use Rattle.master_numbers.proofs.Horner.{Adding}
use Rattle.master_numbers.proofs.sums.add_up.Given as goal

abbrev pub invariant-loop-k : goal.invariant-loop-k
invariant-loop-k l = Adding l.fn.first l.fn.last l.initial.b l.k l.b
