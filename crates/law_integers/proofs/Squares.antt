-- Squares and products of whole numbers: a square is not negative, and a square or a positive multiple is zero only where the number is. Assumes nothing.
use mathlib.Core.Path.{◌≡◌, refl, sym, ap, ◌∙◌}
use Prim.Native.Nat.{ℕ, zero, suc, ◌*◌, ◌<◌}
use native.Mathlib.Nat.{mul-zero, eq_of_mul-eq-mul_left}
use native.Mathlib.Omega.{arith}
use lib.IntN.{ℤ, pos, negsuc, nat_abs, ◌*ℤ◌}
use Rattle.law_integers.proofs.Laws.{nat_abs-*ℤ}

-- a square is the square of the magnitude
pub square : (z : ℤ) → z *ℤ z ≡ pos (nat_abs z * nat_abs z)
square (pos n) = refl
square (negsuc n) = refl

-- only 0 has the magnitude 0
nat_abs_zero : (z : ℤ) → nat_abs z ≡ 0 → z ≡ pos 0
nat_abs_zero (pos n) e = ap pos e
nat_abs_zero (negsuc n) e = absurd (omega arith)

-- a positive multiple that is zero
pub factor_zero : (c n : ℕ) → 0 < c → c * n ≡ 0 → n ≡ 0
factor_zero c n h e = eq_of_mul-eq-mul_left c h n 0 (e ∙ sym (mul-zero c))

pub times_zero : (c : ℕ) (z : ℤ) → 0 < c → pos c *ℤ z ≡ pos 0 → z ≡ pos 0
times_zero c z h e = nat_abs_zero z (factor_zero c (nat_abs z) h (sym (nat_abs-*ℤ (pos c) z) ∙ ap nat_abs e))

-- a square that is zero
pub square_zero : (z : ℤ) → nat_abs z * nat_abs z ≡ 0 → z ≡ pos 0
square_zero z e = nat_abs_zero z (root (nat_abs z) e)
  where
    root : (n : ℕ) → n * n ≡ 0 → n ≡ 0
    root zero e = refl
    root (suc n) e = absurd (omega arith)
