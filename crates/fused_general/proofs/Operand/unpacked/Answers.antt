-- Assumes nothing.
use Rattle.std.proofs.Common.{◌%◌, ◌^◌, ◌≤◌, ◌<◌, sym, ◌∙◌, arith}
use lib.Count.{count_leading_zeros}
use Rattle.fused_general.specs.Bits.{field}
use Rattle.fused_general.proofs.Unpack.{zeros_over, low_pos, low_lt, unpacked_low, unpacked_high}
use Rattle.fused_general.proofs.Operand.unpacked.Goals as goal

pub overflow_sub-result : goal.overflow_sub-result
overflow_sub-result c =
    let b = c.args.self.bits in
    let over : 2 ≤ count_leading_zeros 64 (b % 2 ^ 52) =
    zeros_over (b % 2 ^ 52) (low_pos b c.args.self.nonzero.1 (sym c.exponent_field-field.ensures ∙ c.if-field-eq0.true)) (low_lt b) in
    omega (arith, over)

pub returns-then-field-eq0 : goal.returns-then-field-eq0
returns-then-field-eq0 c =
    unpacked_low c.args.self.bits c.args.self.nonzero.1 (sym c.exponent_field-field.ensures ∙ c.if-field-eq0.true)

pub returns-else-field-eq0 : goal.returns-else-field-eq0
returns-else-field-eq0 c =
    let n = c.args.self.nonzero in
    let some : 0 < field c.args.self.bits = omega (arith, c.exponent_field-field.ensures, c.if-field-eq0.false) in
    rw c.exponent_field-field.ensures (unpacked_high c.args.self.bits n.0 some)
