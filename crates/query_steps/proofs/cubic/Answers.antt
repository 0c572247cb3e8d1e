-- The steps are those of each derivative. Assumes nothing.
use Rattle.std.proofs.Common.{List, ◌∙◌, get_or, Float}
use lib.Ieee.{nan, of_bits, of_int}
use Rattle.rules.specs.Floats.{◌⊗◌, of_count}
use Rattle.query_levels.specs.Levels.{level_number}
use Rattle.law_lists.specs.Lists.{listed}
use Rattle.rules.specs.Query.{derivative_factor, fused_derivative}
use Rattle.query_steps.proofs.FusedSteps.{last, step, derivative_is, derivative_of_read, asked_of}
use Rattle.query_steps.proofs.cubic.Goals as goal

pub returns-in-Positions : goal.returns-in-Positions
unfolding listed derivative_factor
returns-in-Positions c = c.position.ensures ∙ rw (c.in-Positions.is, derivative_of_read c.args.a.now c.args.t 0 c.requires c.fused_steps.ensures)

third : List Float → Float
third a = of_count 6 ⊗ get_or a 3 nan

pub returns : goal.returns
unfolding third of_bits of_int listed derivative_factor
returns c =
    let a = c.args.a.now in
    c.up_to.ensures
    ∙ asked_of (level_number c.args.level) (fused_derivative 3 a c.args.t)
    (record { q = c.mul_add-q.result; dq = c.mul_add-dq.result; ddq = c.mul_add-ddq.result; dddq = third a })
    (derivative_is a c.args.t 0 c.requires (step c.mul_add-q.ensures (step c.mul_add-q1.ensures (step c.mul_add-q2.ensures last))))
    (derivative_is a c.args.t 1 c.requires (step c.mul_add-dq.ensures (step c.mul_add-dq2.ensures last)))
    (derivative_is a c.args.t 2 c.requires (step c.mul_add-ddq.ensures last))
    (λ w. derivative_is a c.args.t 3 c.requires last)
