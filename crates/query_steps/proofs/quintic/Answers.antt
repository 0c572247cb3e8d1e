-- The steps are those of each derivative. Assumes nothing.
use Rattle.std.proofs.Common.{◌≡◌, true, ◌∙◌}
use lib.Ieee.{of_bits, of_int}
use Rattle.law_lists.specs.Lists.{listed}
use Rattle.rules.specs.Query.{writes, derivative_factor, fused_derivative}
use Rattle.query_steps.proofs.FusedSteps.{last, step, derivative_is, derivative_of_read, asked_of}
use Rattle.query_levels.specs.Levels.{level_number}
use Rattle.query_steps.proofs.quintic.Goals.{then-writes, else-writes}
use Rattle.query_steps.proofs.quintic.Goals as goal

pub returns-in-Positions : goal.returns-in-Positions
unfolding listed derivative_factor
returns-in-Positions c = c.position.ensures ∙ rw (c.in-Positions.is, derivative_of_read c.args.a.now c.args.t 0 c.requires c.fused_steps.ensures)

pub returns : goal.returns
unfolding of_bits of_int listed derivative_factor
returns c =
    let a = c.args.a.now in
    let third : writes (level_number c.args.level) 3 ≡ true → c.if-writes.dddq ≡ fused_derivative 5 a c.args.t 3 = λ w.
    elim c.if-writes.branch [
      | then-writes b ↦ b.dddq-is ∙ derivative_of_read a c.args.t 3 c.requires b.fused_steps-dddq.ensures
      | else-writes b ↦ cc
    ] in
    c.up_to.ensures
    ∙ asked_of (level_number c.args.level) (fused_derivative 5 a c.args.t)
    (record { q = c.mul_add-q.result; dq = c.mul_add-dq.result; ddq = c.mul_add-ddq.result; dddq = c.if-writes.dddq })
    (derivative_is a c.args.t 0 c.requires
    (step c.mul_add-q.ensures
    (step c.mul_add-q1.ensures (step c.mul_add-q2.ensures (step c.mul_add-q3.ensures (step c.mul_add-q4.ensures last))))))
    (derivative_is a c.args.t 1 c.requires
    (step c.mul_add-dq.ensures (step c.mul_add-dq2.ensures (step c.mul_add-dq3.ensures (step c.mul_add-dq4.ensures last)))))
    (derivative_is a c.args.t 2 c.requires (step c.mul_add-ddq.ensures (step c.mul_add-ddq3.ensures (step c.mul_add-ddq4.ensures last))))
    third
