-- Which floats are whole numbers, and which whole number such a float is. Either zero is 0. Assumes nothing.
use Rattle.std.specs.Prelude.{Bool, false, ◌*◌, ◌/◌, ◌%◌, eqb, ℤ, pos, Float}
use Rattle.std.specs.Float.{nan, inf, fin}
use Rattle.std.specs.Float.Ieee.{up, down}
use Rattle.law_integers.specs.Signs.{signed}

-- finite, and of m × 2^e, which is the fraction (m × up e) / (down e), nothing is left over
unfoldable pub is_whole : Float → Bool
is_whole nan = false
is_whole (inf s) = false
is_whole (fin s m e) = eqb (m * up e % down e) 0

-- the whole number that such a float is; of any other float it is the whole part with the sign, and of NaN and the infinities 0
unfoldable pub whole_of : Float → ℤ
whole_of nan = pos 0
whole_of (inf s) = pos 0
whole_of (fin s m e) = signed s (m * up e / down e)
