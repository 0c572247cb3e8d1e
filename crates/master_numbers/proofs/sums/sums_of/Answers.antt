use Rattle.std.proofs.Common.{arith}
use Rattle.master_numbers.proofs.Horner.{unshifted, sum_fits, turned}
use Rattle.master_numbers.proofs.sums.sums_of.Goals as goal

pub loop-r-init : goal.loop-r-init
loop-r-init g c = unshifted _ _ _ _ c.coefficients-b.ensures.0 c.coefficients-b.ensures.1

pub add_up-requires : goal.add_up-requires
add_up-requires g c =
    let few = c.requires.most_m in
    (omega arith, omega (arith, c.loop-r.invariant.size), sum_fits c.loop-r.invariant c.requires c.loop-r-test.true)

pub loop-r-preserved : goal.loop-r-preserved
loop-r-preserved g c = turned c.loop-r.invariant c.loop-r-test.true c.add_up.auto.b c.add_up.ensures
