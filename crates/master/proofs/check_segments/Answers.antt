use Rattle.master.proofs.Pass.{pass_refused, pass_goes_on}
use Rattle.master.proofs.check_segments.Goals as goal

pub returns-in_err-good : goal.returns-in_err-good
returns-in_err-good g c =
    let l = c.args.lists in
    pass_refused g.row.M l.waypoints.now l.start.now l.end.now l.table.now c.loop-i.i c.loop-i.good _ c.from_residual.result c.loop-i.invariant
    c.from_residual.ensures.1 c.in_err-good.ensures

pub loop-i-preserved : goal.loop-i-preserved
loop-i-preserved g c =
    let l = c.args.lists in
    pass_goes_on g.row.M l.waypoints.now l.start.now l.end.now l.table.now c.loop-i.i c.loop-i.invariant c.in_ok-good.ensures
