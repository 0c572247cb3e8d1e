-- Assumes nothing.
use Rattle.std.proofs.Common.{ℕ, Bool, ◌∙◌, arith}
use lib.Dec.{leb}
use lib.Ieee.{binary64, unlike, top}
use Rattle.fused_words.specs.Words.{value}
use Rattle.fused_general.proofs.Unpack.{product_placed, addend_placed, magnitudes}
use Rattle.fused_general.proofs.of_operands.Goals as goal

pub rounded_sum-requires : goal.rounded_sum-requires
rounded_sum-requires c =
    let a = c.unpacked-a.ensures in
    let b = c.unpacked-b.ensures in
    let z = c.unpacked-c.ensures in
    (product_placed (value c.product.result) c.product.ensures a b, addend_placed z, omega (arith, a.small, b.small), omega (arith, z.small))

pub returns : goal.returns
returns c =
    let negative : ℕ → Bool = leb (top binary64) in
    c.rounded_sum.ensures
    ∙ magnitudes (unlike (negative c.args.x.bits) (negative c.args.y.bits)) (negative c.args.z.bits) (value c.product.result) c.product.ensures
    c.unpacked-a.ensures c.unpacked-b.ensures c.unpacked-c.ensures
