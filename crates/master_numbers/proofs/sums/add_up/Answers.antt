use Rattle.std.proofs.Common.{rules, arith, ◌≡◌, ◌-◌, ◌+◌, to_z, of_z, w64}
use Rattle.rules.specs.Master.{at}
use Rattle.master_numbers.specs.Sums.{sum_from}
use Rattle.master_numbers.proofs.Signed.{as_read, fits}
use Rattle.master_numbers.proofs.Horner.{none_added, next_sum, one_added}
use Rattle.master_numbers.proofs.sums.add_up.Goals as goal

pub loop-k-init : goal.loop-k-init
loop-k-init c = none_added _ _ _ c.requires.0

pub overflow_add-b-in-loop-k : goal.overflow_add-b-in-loop-k
overflow_add-b-in-loop-k c =
    let b = c.loop-k.b in
    let k = c.loop-k.k in
    let here : to_z w64 (of_z w64 (at b (k - 1))) ≡ at b (k - 1) = search rules in
    let above : to_z w64 (of_z w64 (at b (k - 1 + 1))) ≡ at b (k - 1 + 1) = search rules in
    rw (here, above, next_sum c.loop-k.invariant c.loop-k-test.true) (fits _ (c.requires.2 (k - 1) (omega arith) (omega (arith, c.loop-k.auto.k))))

pub loop-k-preserved : goal.loop-k-preserved
loop-k-preserved c =
    let b = c.loop-k.b in
    let k = c.loop-k.k in
    let here : to_z w64 (of_z w64 (at b (k - 1))) ≡ at b (k - 1) = search rules in
    let above : to_z w64 (of_z w64 (at b (k - 1 + 1))) ≡ at b (k - 1 + 1) = search rules in
    rw (here, above, next_sum c.loop-k.invariant c.loop-k-test.true)
    (one_added c.loop-k.invariant c.loop-k-test.true c.requires.1
    (as_read (sum_from c.args.b.now c.args.last (k - 1)) (fits (sum_from c.args.b.now c.args.last (k - 1)) (c.requires.2 (k - 1) (omega arith) (omega (arith, c.loop-k.auto.k)))).sfits))
