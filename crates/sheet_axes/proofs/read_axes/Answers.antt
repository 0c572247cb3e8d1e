-- One axis after the other: it stops, it is the last, or another follows. Assumes nothing.
use Rattle.std.proofs.Common.{◌≤◌, ◌<◌, ◌+◌, length, refl, ap, arith, ◌∙◌}
use Rattle.std.proofs.lemmas.Result.{err_from_is_err_and}
use Rattle.sheet_axes.proofs.Axes.{at_start_lem, with_is, axis_stops, all_axes_lem, more_axes, ninth, still_long}
use Rattle.sheet_axes.proofs.read_axes.Goals as goal

pub loop-k-init : goal.loop-k-init
loop-k-init c =
    let a = c.args in
    let here = a.cursor.now in
    record {
      same = refl;
      points_long = c.told-points;
      start_long = c.told-start;
      end_long = c.told-end;
      counted = refl;
      sofar = at_start_lem here.text.now here.at a.points.now a.start.now a.end.now here.inside c.told-points c.told-start c.told-end;
    }

pub returns-in_err-read-clause-says : goal.returns-in_err-read-clause-says
returns-in_err-read-clause-says c =
    let here = c.args.cursor.now in
    let l = c.loop-k in
    let i = l.invariant in
    let p = err_from_is_err_and c.from_residual.result c.from_residual.ensures.1 in
    rw (p.1, p.2)
    (axis_stops here.text.now here.at l.k l.cursor.at _ l.points l.start l.end i.sofar c.loop-k-test.true i.points_long i.start_long i.end_long _
    (rw i.same at c.in_err-read.ensures.says))

pub returns-then-cursor-clause-says : goal.returns-then-cursor-clause-says
returns-then-cursor-clause-says c =
    let here = c.args.cursor.now in
    let l = c.loop-k in
    let i = l.invariant in
    let is = c.axes_with-sizes.ensures ∙ with_is l.sofar l.k c.in_ok-read.read i.counted in
    let long = ap (λ t. length t) (c.in_ok-read.ensures.same ∙ i.same) in
    let ended : length here.text.now ≤ c.axis.new.cursor.at = omega (arith, long, c.if-cursor.true) in
    rw is
    (all_axes_lem here.text.now here.at l.k l.cursor.at _ l.points l.start l.end i.sofar c.loop-k-test.true i.points_long i.start_long i.end_long _ _ _
    _ _ (rw i.same at c.in_ok-read.ensures.says) ended)

pub loop-k-preserved : goal.loop-k-preserved
loop-k-preserved c =
    let here = c.args.cursor.now in
    let l = c.loop-k in
    let i = l.invariant in
    let room = c.loop-k-test.true in
    let one : 1 ≤ l.k + 1 = omega arith in
    let is = c.axes_with-sizes.ensures ∙ with_is l.sofar l.k c.in_ok-read.read i.counted in
    let same = c.in_ok-read.ensures.same ∙ i.same in
    let long = ap (λ t. length t) same in
    let on : c.axis.new.cursor.at < length here.text.now = omega (arith, long, c.if-cursor.false, c.axis.new.cursor.inside) in
    record {
      same = same;
      points_long = still_long l.k room 258 l.points i.points_long c.axis.new.points c.axis.auto.points;
      start_long = still_long l.k room 4 l.start i.start_long c.axis.new.start c.axis.auto.start;
      end_long = still_long l.k room 4 l.end i.end_long c.axis.new.end c.axis.auto.end;
      counted = one;
      sofar = rw is
          (more_axes here.text.now here.at l.k l.cursor.at _ l.points l.start l.end i.sofar room i.points_long i.start_long i.end_long _ _ _ _ _
          (rw i.same at c.in_ok-read.ensures.says) on);
    }

pub returns-clause-says : goal.returns-clause-says
returns-clause-says c =
    let here = c.args.cursor.now in
    let l = c.loop-k in
    rw c.invalid_sheet.ensures (ninth here.text.now here.at l.cursor.at _ l.points l.start l.end l.k c.loop-k-test.false l.invariant.sofar)
