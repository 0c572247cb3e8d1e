-- Where the preview refuses, the buffer stays; else it is filled, by a plan that the preview's questions allow. Assumes nothing.
use Rattle.std.proofs.Common.{◌≡◌, ◌∙◌, Err, arith}
use Rattle.build.proofs.InputKnown.{known, filled, refused}
use Rattle.build.proofs.from_waypoints_view.Goals as goal

pub returns-in_err-path : goal.returns-in_err-path
returns-in_err-path c =
    let is : c.from_residual.result ≡ Err c.in_err-path.field-0.0 = grind arith in
    (rw is c.in_err-path.ensures, refused _ _ _ c.in_err-path.ensures)

pub overflow_sub-plan : goal.overflow_sub-plan
overflow_sub-plan c = (known _ _ _ c.in_ok-path.ensures).order

pub overflow_sub-plan-2 : goal.overflow_sub-plan-2
overflow_sub-plan-2 c = (known _ _ _ c.in_ok-path.ensures).points

pub invariant_of-plan : goal.invariant_of-plan
invariant_of-plan c =
    let k = known _ _ _ c.in_ok-path.ensures in
    record {
      some = k.some;
      few = k.few;
      few_nodes = k.few_nodes;
      few_axes = k.few_axes;
      waypoints_length = k.waypoints_length;
      start_numbers = k.start_numbers;
      end_numbers = k.end_numbers;
    }

pub fill-requires : goal.fill-requires
fill-requires c = (known _ _ _ c.in_ok-path.ensures).cells_are

pub returns : goal.returns
returns c =
    let told = c.in_ok-path.ensures in
    (told, c.fill.ensures ∙ filled _ _ _ told)
