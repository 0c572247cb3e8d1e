-- What bits are rounded to. Assumes nothing.
use Rattle.std.specs.Prelude.{◌≡◌, Bool, cond, ℕ, ◌+◌, ◌*◌, ◌^◌, ◌<◌, min, Float}
use Rattle.std.specs.Float.{binary64}
use Rattle.std.specs.Float.Ieee.{round, hid, ones, top, of_bits}
use Rattle.std.specs.Float.Ieee.Nearest.{closest}
use Rattle.law_rounding.specs.Sticky.{Sticky}
use Rattle.fused_words.specs.Words.{value}
use Rattle.fused_pack.specs.declared.Term.{Term}

-- the float with the sign s whose digits are w / 2 ^ 11, rounded, with k zeros after them; at the top, the infinity
abbrev pub Patterned : Bool → ℕ → ℕ → Float
Patterned s w k = of_bits binary64 (cond s (top binary64) 0 + min (k * hid binary64 + closest w (2 ^ 11)) (ones binary64 * hid binary64))

-- r is the term over 2 ^ 2272, rounded, whatever number x / v its two words stand for. One word alone stands for itself.
abbrev pub Rounds : Term → Float → Type 0
Rounds t r =
    (v x : ℕ) → 0 < v → Sticky v x (value t.words) → (t.words.high ≡ 0 → x ≡ t.words.low * v)
    → r ≡ round binary64 t.negative (x * 2 ^ t.exponent) (v * 2 ^ 2272)
