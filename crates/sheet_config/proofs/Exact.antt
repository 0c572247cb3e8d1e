-- A number within the limit: it fits a register, is a float exactly, and may be an order. Assumes nothing.
use mathlib.Core.Path.{◌≡◌, refl}
use mathlib.Core.Bool.{true, false}
use Prim.Native.Nat.{ℕ, ◌^◌, ◌≤◌}
use lib.IntN.{ℤ, pos, negsuc, nat_abs}
use native.Mathlib.Nat.{le_trans, lt_of_le_of_lt}
use native.Mathlib.Omega.{arith}
use borrow.Author.Tests.{ltb-true}
use lib.Dec.{T, lit≤, le→leb, lt→ltb}
use lib.Ieee.{binary64, in_float}
use lib.Signed.{lt_z, non_neg}
use mir.Syntax.{w64}
use mir.Val.{of_z, to_z, SFits}
use mir.Facts.{to_z-of_z}
use Rattle.std.specs.Prelude.{Result, Ok, Err}
use Rattle.std.specs.Result.{OkIff, result_unwrap_or}
use Rattle.std.specs.Int.{FitsUnsignedBits}
use Rattle.rules.specs.SheetAnswers.{order_of}
use Rattle.sheet_record.specs.Held.{Near}

fits : (z : ℤ) → Near z → SFits w64 z
fits (pos n) h = record { sfits = lt_of_le_of_lt h (lit≤ tt) }
fits (negsuc n) h = record { sfits = le_trans h (lit≤ tt) }

-- what code reads of it
pub back : (z : ℤ) → Near z → to_z w64 (of_z w64 z) ≡ z
back z h = to_z-of_z (fits z h)

exact : (z : ℤ) → Near z → T (in_float binary64 z)
unfolding in_float
exact (pos n) h = le→leb n (2 ^ 53) (le_trans h (lit≤ tt))
exact (negsuc n) h = lt→ltb n (2 ^ 53) (le_trans h (lit≤ tt))

pub exact_cast : (z : ℤ) → Near z → T (in_float binary64 (to_z w64 (of_z w64 z)))
exact_cast z h = rw (back z h) (exact z h)

pub order_near : (z : ℤ) → Near z → order_of z ≤ 2 ^ 40
unfolding order_of
order_near (pos n) h = h
order_near (negsuc n) h = lit≤ tt

pub no_order : (z : ℤ) → lt_z z (pos 0) ≡ true → 0 ≡ order_of z
unfolding order_of
no_order (pos n) e = absurd (omega (arith, ltb-true n 0 e))
no_order (negsuc n) e = refl

pub an_order : (z : ℤ) → lt_z z (pos 0) ≡ false → T (non_neg z) × (nat_abs z ≡ order_of z)
unfolding order_of
an_order (pos n) e = (tt, refl)
an_order (negsuc n) e = let clash : ◌≡◌ {A = ℕ} 0 1 = cc in absurd (omega arith)

-- a number as an order, or 0 where it is none
pub order_or_0 : {E : Type 0} (z : ℤ) (r : Result ℕ E) → Near z → OkIff r (FitsUnsignedBits 64 z) (nat_abs z) → result_unwrap_or r 0 ≡ order_of z
unfolding order_of
order_or_0 (pos n) (Ok x) h e = e.1
order_or_0 (pos n) (Err e) h none = absurd (none (lt_of_le_of_lt h (lit≤ tt)))
order_or_0 (negsuc n) (Ok x) h e = absurd e.0
order_or_0 (negsuc n) (Err e) h none = refl
