-- A number in two words, placed for a sum, and the sum. Assumes nothing.
use Rattle.std.specs.Prelude.{◌≡◌, ℕ, ◌*◌, ◌%◌, ◌^◌, ◌≤◌, ◌<◌, Float}
use Rattle.std.specs.Float.{binary64}
use Rattle.std.specs.Float.Ieee.{sum}
use Rattle.fused_words.specs.Words.{value}
use Rattle.fused_pack.specs.declared.Term.{Term}

-- where the product of two significands and the addend are placed in two words
abbrev pub Placed : ℕ → Type 0
Placed n = (2 ^ 124 ≤ n) × (n < 2 ^ 126) × (n % 4 ≡ 0)

-- two terms, each with its sign, added over 2 ^ 2272 and rounded once
abbrev pub added : Term → Term → Float
added x y = sum binary64 x.negative (value x.words * 2 ^ x.exponent) y.negative (value y.words * 2 ^ y.exponent) (2 ^ 2272)
