-- By halves of 32 bits. Assumes nothing.
use Rattle.std.proofs.Common.{◌^◌, ◌%◌, ◌/◌, ◌*◌, ◌+◌, arith}
use Rattle.fused_words.proofs.Carry.{multiplied, word_carried, lowest_fits}
use Rattle.fused_words.proofs.Words.product.Goals as goal

pub returns : goal.returns
returns c =
    let a = c.args.a in
    let b = c.args.b in
    multiplied (2 ^ 32) a b _ _ (word_carried (a % 2 ^ 32 * (b % 2 ^ 32)) ((a / 2 ^ 32 * (b % 2 ^ 32) + a % 2 ^ 32 * (b / 2 ^ 32)) % 2 ^ 32 * 2 ^ 32)
    (lowest_fits a b) (omega arith))
