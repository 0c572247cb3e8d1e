-- Assumes nothing.
use Rattle.std.proofs.Common.{◌^◌, ◌<◌, arith}
use Rattle.fused_words.specs.Words.{value}
use Rattle.fused_near.proofs.Sum.{product_short, addend_short, sum_short}
use Rattle.fused_near.proofs.Biased.sum.Goals as goal

pub sum_or_difference-requires : goal.sum_or_difference-requires
sum_or_difference-requires c =
    let p : value c.shifted-p.result < 2 ^ 106 =
    product_short c.args.far _ _ _ _ (omega arith) (omega arith) c.product.ensures c.shifted-p.ensures in
    let a : value c.lifted-c.result < 2 ^ 115 = addend_short _ c.args.n _ (omega arith) c.requires c.lifted-c.ensures in
    (omega arith, omega arith)

pub invariant_of-result : goal.invariant_of-result
invariant_of-result c = record {
  short =
      let p = product_short c.args.far c.significand.result c.significand-2.result _ _ (omega arith) (omega arith) c.product.ensures c.shifted-p.ensures in
      let a = addend_short c.significand-3.result c.args.n _ (omega arith) c.requires c.lifted-c.ensures in
      let s : value c.sum_or_difference.result < 2 ^ 117 = sum_short c.args.like _ _ _ p a c.sum_or_difference.ensures in
      omega arith;
}
