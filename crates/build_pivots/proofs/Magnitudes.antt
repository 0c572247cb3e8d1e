-- The number without its sign, as std's `abs` gives it. Assumes nothing.
use Rattle.std.proofs.Common.{◌≡◌, false, refl}
use lib.Ieee.{Float, nan, inf, fin}
use Rattle.std.specs.Float.{float_with_sign}
use Rattle.rules.specs.Floats.{magnitude}

pub without_sign : (x : Float) → float_with_sign false x ≡ magnitude x
unfolding float_with_sign
without_sign nan = refl
without_sign (inf s) = refl
without_sign (fin s m e) = refl
