use Rattle.master.proofs.Pass.{Passed}
use Rattle.master.proofs.check_segments.Given as goal

abbrev pub invariant-loop-i : goal.invariant-loop-i
invariant-loop-i g l =
    let s = l.fn.lists in Passed g.row.M s.waypoints.now s.start.now s.end.now s.table.now l.good l.i
