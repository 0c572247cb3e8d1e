-- Assumes nothing.
use Rattle.std.proofs.Common.{◌≡◌, ℕ, ◌+◌, ◌*◌, ◌^◌, ◌≤◌, Bool, true, false, cond, refl, not, T}
use lib.Ieee.{binary64, hid, ones, nan_bits}
use mir.Val.{bool_byte}
use Rattle.law_rounding.proofs.Pattern.{no_nan}
use Rattle.fused_words.proofs.signed.Goals as goal

sign_bit : (s : Bool) → bool_byte s * 2 ^ 63 ≡ cond s (2 ^ 63) 0
sign_bit true = refl
sign_bit false = refl

number : (s : Bool) (b : ℕ) → b ≤ ones binary64 * hid binary64 → T (not (nan_bits binary64 (bool_byte s * 2 ^ 63 + b)))
number s b h = rw (sign_bit s) (no_nan binary64 s b h)

pub float_from_bits-result : goal.float_from_bits-result
float_from_bits-result c = number _ c.args.bits c.requires
