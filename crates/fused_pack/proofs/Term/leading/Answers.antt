-- Assumes nothing.
use Rattle.std.proofs.Common.{◌-◌, ◌*◌, ◌^◌, ◌<◌, ◌∙◌, arith, mul-pos, pow_pos}
use mir.Facts.{Fits-bits}
use lib.Count.{count_leading_zeros}
use Rattle.law_rounding.proofs.Sticky.{sticky_again}
use Rattle.fused_words.specs.Words.{value}
use Rattle.fused_words.proofs.Leading.{zeros_lt, normalized}
use Rattle.fused_pack.proofs.Round.{word_lt, leading_sticky, leading_ge, leading_round}
use Rattle.fused_pack.proofs.Term.leading.Goals as goal

pub overflow_add-w : goal.overflow_add-w
overflow_add-w c =
    let w = c.args.self.words in
    Fits-bits 64 tt (word_lt w.high w.low _ (zeros_lt w.high c.requires.0 (omega arith)) (normalized w.high c.requires.0 (omega arith)).1 (omega arith))

pub rounded-requires : goal.rounded-requires
rounded-requires c =
    let w = c.args.self.words in
    let front = normalized w.high c.requires.0 (omega arith) in (
      leading_ge w.high w.low _ (zeros_lt w.high c.requires.0 (omega arith)) front.1 (omega arith) c.marked.result front.0 c.marked.ensures,
      omega (arith, c.requires.1),
    )

pub returns : goal.returns
returns c v x p t =
    let s = c.args.self in
    let z = count_leading_zeros 64 s.words.high in
    let few : z < 64 = zeros_lt s.words.high c.requires.0 (omega arith) in
    let fits : s.words.high * 2 ^ z < 2 ^ 64 = (normalized s.words.high c.requires.0 (omega arith)).1 in
    let y = leading_sticky s.words.high s.words.low z few fits (omega arith) c.marked.result c.marked.ensures in
    c.rounded.ensures (2 ^ (64 - z) * v) x (mul-pos (pow_pos (64 - z)) p)
    (sticky_again v (2 ^ (64 - z)) x (value s.words) c.marked.result p (pow_pos (64 - z)) t y)
    ∙ leading_round s.negative s.exponent z v x few p
