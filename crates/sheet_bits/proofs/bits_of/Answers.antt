-- `sheet_bits::bits_of` meets its contract: what is no number is the one NaN. Assumes nothing.
use mathlib.Core.Path.{◌≡◌, refl, sym, ◌∙◌}
use mathlib.Core.Bool.{true}
use lib.Ieee.{Float, nan, inf, fin, binary64, is_nan, to_bits}
use Rattle.sheet_bits.specs.declared.TheConstants.{NAN_BITS}
use Rattle.sheet_bits.proofs.bits_of.Goals as goal

nan_bits : (x : Float) → is_nan x ≡ true → NAN_BITS ≡ to_bits binary64 x
unfolding is_nan to_bits
nan_bits nan e = refl
nan_bits (inf s) e = cc
nan_bits (fin s m x) e = cc

pub returns-then-is_nan : goal.returns-then-is_nan
returns-then-is_nan c = nan_bits _ (sym c.is_nan.ensures.value ∙ c.if-is_nan.true)
