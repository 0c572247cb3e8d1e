-- What the bits of a float of 64 bits are. Assumes nothing.
use Rattle.std.specs.Prelude.{◌≡◌, Bool, ℕ, ◌*◌, ◌/◌, ◌%◌, ◌^◌, ◌≤◌, ◌<◌, leb, Float}
use Rattle.std.specs.Float.{binary64}
use Rattle.std.specs.Float.Ieee.{unlike, sum, hid, ones, top}
use Rattle.law_rounding.specs.Weight.{weight}

-- the exponent's field
abbrev pub field : ℕ → ℕ
field b = b % top binary64 / hid binary64

-- the magnitude in units of the smallest float
abbrev pub magnitude : ℕ → ℕ
magnitude b = weight binary64 (field b) (b % hid binary64)

-- finite, and not zero
abbrev pub Nonzero : ℕ → Type 0
Nonzero b = (field b < ones binary64) × (0 < b % top binary64)

-- a magnitude m as digits d, the leading one at bit 62, and an exponent e: d * 2 ^ e / 2 ^ 62
pub record Unpacked (m d e : ℕ) : Type 0 where
  pub is : d * 2 ^ e ≡ m * 2 ^ 62
  pub least : 2 ^ 62 ≤ d
  pub most : d < 2 ^ 63
  pub even : d % 2 ≡ 0
  pub small : e < 2100

-- a * b + c of three finite floats by their bits, rounded once
abbrev pub summed : ℕ → ℕ → ℕ → Float
summed x y z =
    let negative : ℕ → Bool = leb (top binary64) in
    sum binary64 (unlike (negative x) (negative y)) (magnitude x * magnitude y) (negative z) (magnitude z * 2 ^ 1074) (2 ^ 2148)
