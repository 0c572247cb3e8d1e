-- A product more. Assumes nothing.
use Rattle.std.proofs.Common.{◌≡◌, ◌+◌, ◌*◌, ◌-◌, ◌<◌, ◌≤◌, length, get_or, take, drop, arith, ◌∙◌, zero-mul, add-zero, add_comm}
use lib.Ieee.{nan}
use lib.Seq.{get_or-take, get_or-drop}
use Rattle.rules.specs.Floats.{◌!◌}
use Rattle.law_lists.proofs.Lists.{part_inside}
use Rattle.law_lists.proofs.Places.{next_part}
use Rattle.rules.proofs.Cells.{read}
use Rattle.build_products.proofs.Sums.{sum_of_one, sum_of_more}
use Rattle.build_products.proofs.dot.Goals as goal

pub loop-x-init : goal.loop-x-init
loop-x-init c =
    let here : c.args.at < length c.args.a.now = omega (arith, part_inside c.args.step c.requires.0) in
    (omega arith, rw (read c.args.a.now c.args.at here, read c.args.v.now 0 (omega arith), sum_of_one, zero-mul, add-zero))

pub loop-x-preserved : goal.loop-x-preserved
loop-x-preserved c =
    let k = c.loop-x.x-index in
    let v = c.args.v.now in
    let more : k + 1 < length v = omega (arith, c.loop-x-test.true) in
    let some : 1 ≤ k + 1 = omega arith in
    let on = next_part c.args.step k in
    let place : c.loop-x.place + c.args.step ≡ c.args.at + (k + 1) * c.args.step = omega (arith, on) in
    let item : get_or (take (length v - 1) (drop 1 v)) k nan ≡ v ! (k + 1) =
    get_or-take (length v - 1) (drop 1 v) k nan (omega arith) ∙ get_or-drop 1 v k nan ∙ read v (1 + k) (omega arith) ∙ rw (add_comm 1 k) in
    (place, rw (item, read c.args.a.now (c.loop-x.place + c.args.step) (omega (arith, part_inside c.args.step more)), sum_of_more _ _ some, ← c.loop-x.invariant.1, ← place))
