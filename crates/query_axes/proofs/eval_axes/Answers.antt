-- An axis more: each buffer that the level writes has its cell set to the derivative. Assumes nothing.
use Rattle.std.proofs.Common.{List, ◌+◌, ◌*◌, ◌∙◌, refl, ap, Float, arith}
use Rattle.rules.specs.Floats.{◌⊗◌}
use Rattle.rules.specs.Query.{eval_poly, per_unit_of_s, segment_of}
use Rattle.rules.proofs.FilledList as Fills
use Rattle.law_lists.proofs.Lent.{part_size}
use Rattle.query_levels.specs.Levels.{level_number}
use Rattle.query_loop.specs.declared.Derivatives.{Derivatives}
use Rattle.query_loop.specs.Level.{asked}
use Rattle.query_axes.specs.Evaluation.{derivative_at}
use Rattle.query_axes.proofs.AxesLoop as Axes
use Rattle.query_axes.proofs.AxesLoop.{order_bound, asked_for, room}
use Rattle.query_axes.proofs.eval_axes.Goals as goal

pub overflow_add-count : goal.overflow_add-count
overflow_add-count c = let h = order_bound c.requires in record { fits = omega arith }

pub loop-axis-init : goal.loop-axis-init
loop-axis-init c = record {
  is_q = Fills.none _ _;
  is_dq = Axes.none _ _ _;
  is_ddq = Axes.none _ _ _;
  is_dddq = Axes.none _ _ _;
  same = record { q = refl; dq = refl; ddq = refl; dddq = refl };
}

pub put-requires-in-loop-axis-2 : goal.put-requires-in-loop-axis-2
put-requires-in-loop-axis-2 c w = rw (Axes.kept c.loop-axis.invariant.is_dddq) (room c.requires.dddq c.loop-axis-test.true w)

pub loop-axis-preserved : goal.loop-axis-preserved
unfolding per_unit_of_s
loop-axis-preserved c =
    let p = c.args.path in
    let inv = p.inv_ds in
    let count = p.order + 1 in
    let from = (c.loop-axis.axis * p.segments + c.args.at.segment) * count in
    let done = c.loop-axis.invariant in
    let h = c.requires in
    let l = c.loop-axis-test.true in
    let is =
    c.eval_poly-d.ensures
    ∙ ap (λ (part : List Float). asked (level_number c.args.level) (eval_poly p.order part c.args.at.tau.0)) (part_size from count c.args.coeffs.now) in
    record {
      is_q = Fills.step done.is_q (ap (λ (x : Derivatives). x.q) is) (rw h.q l);
      is_dq = Axes.step done.is_dq (λ w. ap (λ (x : Float). x ⊗ inv) (asked_for (ap (λ (x : Derivatives). x.dq) is) w)) (room h.dq l) c.put.ensures;
      is_ddq =
          Axes.step done.is_ddq (λ w. ap (λ (x : Float). x ⊗ (inv ⊗ inv)) (asked_for (ap (λ (x : Derivatives). x.ddq) is) w)) (room h.ddq l)
          c.put-in-loop-axis.ensures;
      is_dddq =
          Axes.step done.is_dddq (λ w. ap (λ (x : Float). x ⊗ (inv ⊗ inv ⊗ inv)) (asked_for (ap (λ (x : Derivatives). x.dddq) is) w)) (room h.dddq l)
          c.put-in-loop-axis-2.ensures;
      same = record { q = done.same.q; dq = done.same.dq; ddq = done.same.ddq; dddq = done.same.dddq };
    }

pub returns-clause-evaluated : goal.returns-clause-evaluated
unfolding derivative_at segment_of
returns-clause-evaluated c =
    let done = c.loop-axis.invariant in
    let h = c.requires in
    let l = c.loop-axis-test.false in
    record {
      is_q = Fills.whole done.is_q h.q l;
      is_dq = Axes.whole done.is_dq h.dq l;
      is_ddq = Axes.whole done.is_ddq h.ddq l;
      is_dddq = Axes.whole done.is_dddq h.dddq l;
    }
