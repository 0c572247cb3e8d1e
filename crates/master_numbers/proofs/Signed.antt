-- A signed number as code has it: bits, which stand for the number where it is below 2^63. Assumes nothing.
use mathlib.Core.Path.{◌≡◌}
use Prim.Native.Nat.{◌^◌, ◌<◌}
use native.Mathlib.Omega.{arith}
use lib.IntN.{ℤ, pos, negsuc, nat_abs}
use lib.Signed.{mag}
use mir.Syntax.{w64}
use mir.Val.{SFits, hbits, of_z, to_z}
use mir.ValLaws.{to_z-of_z}

-- it was written as bits, and reading them gives the number back
pub as_read : (z : ℤ) → mag z < 2 ^ hbits w64 → to_z w64 (of_z w64 z) ≡ z
as_read z h = to_z-of_z w64 z (record { sfits = h })

pub fits : (z : ℤ) → nat_abs z < 2 ^ 63 → SFits w64 z
fits (pos n) h = record { sfits = h }
fits (negsuc n) h = record { sfits = omega arith }
