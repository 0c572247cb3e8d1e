-- Each way out is a law of proofs/Operands.antt. Assumes nothing.
use Rattle.std.proofs.Common.{sym, ◌∙◌}
use Rattle.fused_general.proofs.Operands.{held, field_lt, nonzero, by_bits, zero_first, zero_second, zero_third}
use Rattle.fused_general.proofs.Values.{finite_no_nan}
use Rattle.fused_general.proofs.of_finite.Goals as goal
use Rattle.fused_general.proofs.of_finite.Goals.{then-x-eq0-via-then-x-eq0, then-x-eq0-via-else-x-eq0+then-y-eq0}

pub float_to_bits-x : goal.float_to_bits-x
float_to_bits-x c = finite_no_nan c.args.a c.requires.0

pub float_to_bits-y : goal.float_to_bits-y
float_to_bits-y c = finite_no_nan c.args.b c.requires.1

pub float_to_bits-z : goal.float_to_bits-z
float_to_bits-z c = finite_no_nan c.args.c c.requires.2

pub returns-then-x-eq0 : goal.returns-then-x-eq0
returns-then-x-eq0 c =
    let f = c.well_formed in
    let r = c.requires in
    elim c.then-x-eq0.branch [
      | then-x-eq0-via-then-x-eq0 w ↦
          zero_first c.args.a c.args.b c.args.c (held f.0.1) (held f.1.0.1) (held f.1.1.0.1) r.0 r.1 r.2 w.if-x-eq0.true
      | then-x-eq0-via-else-x-eq0+then-y-eq0 w ↦
          zero_second c.args.a c.args.b c.args.c (held f.0.1) (held f.1.0.1) (held f.1.1.0.1) r.0 r.1 r.2 w.if-y-eq0.true
    ]

pub returns-then-z-eq0 : goal.returns-then-z-eq0
returns-then-z-eq0 c =
    let f = c.well_formed in
    let r = c.requires in
    zero_third c.args.a c.args.b c.args.c (held f.0.1) (held f.1.0.1) (held f.1.1.0.1) r.0 r.1 r.2
    (nonzero c.args.a (held f.0.1) r.0 c.if-x-eq0.false) (nonzero c.args.b (held f.1.0.1) r.1 c.if-y-eq0.false) c.if-z-eq0.true

pub invariant_of-of_operands : goal.invariant_of-of_operands
invariant_of-of_operands c = record { nonzero = nonzero c.args.a (held c.well_formed.0.1) c.requires.0 c.if-x-eq0.false }

pub invariant_of-of_operands-2 : goal.invariant_of-of_operands-2
invariant_of-of_operands-2 c = record { nonzero = nonzero c.args.b (held c.well_formed.1.0.1) c.requires.1 c.if-y-eq0.false }

pub invariant_of-of_operands-3 : goal.invariant_of-of_operands-3
invariant_of-of_operands-3 c = record { nonzero = nonzero c.args.c (held c.well_formed.1.1.0.1) c.requires.2 c.if-z-eq0.false }

pub returns : goal.returns
returns c =
    let f = c.well_formed in
    let r = c.requires in
    c.of_operands.ensures
    ∙ sym
    (by_bits c.args.a c.args.b c.args.c (held f.0.1) (held f.1.0.1) (held f.1.1.0.1)
    (field_lt c.args.a (held f.0.1) r.0) (field_lt c.args.b (held f.1.0.1) r.1) (field_lt c.args.c (held f.1.1.0.1) r.2))
