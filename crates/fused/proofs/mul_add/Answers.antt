-- In the common case the result is the sum of the magnitudes (`common_shifted`), and so is the definition (`by_bits`). Assumes nothing.
use Rattle.std.proofs.Common.{ℕ, sym, ◌∙◌, arith}
use lib.Ieee.{binary64, to_bits}
use Rattle.fused_general.proofs.Operands.{held, by_bits}
use Rattle.fused.proofs.Common.{above, is_common, common_nonzero, common_shifted}
use Rattle.fused.proofs.mul_add.Goals as goal

pub returns-then-long : goal.returns-then-long
returns-then-long c =
    let x : ℕ = to_bits binary64 c.args.a in
    let y : ℕ = to_bits binary64 c.args.b in
    let z : ℕ = to_bits binary64 c.args.c in
    let fx = c.exponent_field-fx.ensures in
    let fy = c.exponent_field-fy.ensures in
    let fz = c.exponent_field.ensures in
    let fields = rw (fx, fy, fz) at (c.common.ensures c.if-common.true) in
    let far = rw (fx, fy, fz) at c.excess-far.ensures in
    let sum = c.sum-sum.ensures in
    let is = rw (fx, fy, fz) at sum.2 in
    let converted = rw (fx, fy) at c.converted.ensures in
    let common = is_common x y z fields in
    let good = c.well_formed in
    let some = common_nonzero x y z common.0 in
    common_shifted x y z (above x y z) c.excess-far.result sum.0 c.sum-sum.result.words c.converted.result
    far common.0 common.1 fields.4 (omega arith) sum.1 is converted (c.long.ensures c.if-long.true)
    ∙ sym (by_bits c.args.a c.args.b c.args.c (held good.0.1) (held good.1.0.1) (held good.1.1.0.1) some.0.0 some.1.0 some.2.0)
