-- Whole numbers by sign and magnitude, as floats have them. Assumes nothing.
use Rattle.std.specs.Prelude.{Bool, true, false, ℕ, ℤ, pos, neg_ℤ}

-- a magnitude with its sign, which is true for a negative number; with either sign 0 is 0
abbrev pub signed : Bool → ℕ → ℤ
signed false n = pos n
signed true n = neg_ℤ (pos n)
