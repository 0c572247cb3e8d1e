-- The common case: a sum in two words, with 2 ^ 115 more so that it is never below 0, and what it is converted to. Assumes nothing.
use Rattle.std.specs.Prelude.{ℕ, ◌+◌, ◌-◌, ◌*◌, ◌%◌, ◌^◌, ◌≤◌, ◌≡◌, Bool, not, cond, Float}
use Rattle.std.specs.Float.{binary64}
use Rattle.std.specs.Float.Ieee.{round}
use Rattle.fused_words.specs.declared.Words.{Words}
use Rattle.fused_words.specs.Words.{value}

-- a product p, with the addend added or subtracted, and 2 ^ 115 more, in units of the product's last digit, which is n places below the addend's
abbrev pub biased_sum : Bool → ℕ → ℕ → ℕ → ℕ
biased_sum like p z n =
    let c = (2 ^ 52 + z % 2 ^ 52) * 2 ^ n in
    cond like (2 ^ 115 + p + c) (2 ^ 115 + p - c)

-- r is such a sum w, of a product with the sign s and with units of 2 ^ (e - 2150), rounded and without the 2 ^ 115. Nothing is said of a sum nearer to 0
-- than 2 ^ 66 units.
pub record Converts (s : Bool) (w : Words) (e : ℕ) (r : Float) : Type 0 where
  pub above : 2 ^ 51 + 4 ≤ w.high → r ≡ round binary64 s ((value w - 2 ^ 115) * 2 ^ e) (2 ^ 2150)
  pub below : w.high + 4 ≤ 2 ^ 51 → r ≡ round binary64 (not s) ((2 ^ 115 - value w) * 2 ^ e) (2 ^ 2150)
