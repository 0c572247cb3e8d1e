-- Laws of whole numbers by sign and magnitude. Assumes nothing.
use mathlib.Core.Path.{◌≡◌, refl, sym, ap, ◌∙◌}
use mathlib.Core.Bool.{Bool, true, false, not, cond}
use Prim.Native.Nat.{ℕ, zero, suc, ◌+◌, ◌-◌, ◌*◌, ◌≤◌, ◌<◌}
use native.Mathlib.Nat.{mul-zero, zero-mul}
use native.Mathlib.Omega.{arith}
use lib.Dec.{T, ltb, ltb→lt}
use lib.IntN.{pos, negsuc, nat_abs, neg_ℤ, neg_ℤ-neg_ℤ, neg_ℤ-+ℤ, ◌+ℤ◌, ◌*ℤ◌}
use lib.Ieee.{unlike}
use Rattle.law_integers.specs.Signs.{signed}
use Rattle.law_integers.proofs.Laws.{nat_abs-negℤ}

pub nat_abs_signed : (s : Bool) (n : ℕ) → nat_abs (signed s n) ≡ n
nat_abs_signed false n = refl
nat_abs_signed true n = nat_abs-negℤ (pos n)

pub signed_not : (s : Bool) (n : ℕ) → signed (not s) n ≡ neg_ℤ (signed s n)
signed_not false n = refl
signed_not true n = sym (neg_ℤ-neg_ℤ (pos n))

pub signed_add : (s : Bool) (a b : ℕ) → signed s (a + b) ≡ signed s a +ℤ signed s b
signed_add false a b = refl
signed_add true a b = neg_ℤ-+ℤ (pos a) (pos b)

-- a - b, where b is no more than a
pos_sub : (a b : ℕ) → b ≤ a → pos (a - b) ≡ pos a +ℤ neg_ℤ (pos b)
pos_sub a zero h = ap pos (less a)
  where
    less : (a : ℕ) → a - 0 ≡ a + 0
    less a = omega arith
pos_sub a (suc b) h = go (ltb a (suc b)) (ltb→lt a (suc b))
  where
    go : (t : Bool) → (T t → a < suc b) → pos (a - suc b) ≡ cond t (negsuc (suc b - suc a)) (pos (a - suc b))
    go true l = let k = l tt in absurd (omega arith)
    go false l = refl

pub signed_sub : (s : Bool) (a b : ℕ) → b ≤ a → signed s (a - b) ≡ signed s a +ℤ neg_ℤ (signed s b)
signed_sub false a b h = pos_sub a b h
signed_sub true a b h = ap neg_ℤ (pos_sub a b h) ∙ neg_ℤ-+ℤ (pos a) (neg_ℤ (pos b))

pub signed_mul : (s t : Bool) (a b : ℕ) → signed (unlike s t) (a * b) ≡ signed s a *ℤ signed t b
signed_mul false false a b = refl
signed_mul false true a zero = rw mul-zero
signed_mul false true a (suc b) = refl
signed_mul true false zero b = rw zero-mul
signed_mul true false (suc a) b = refl
signed_mul true true zero zero = refl
signed_mul true true zero (suc b) = rw zero-mul
signed_mul true true (suc a) zero = rw mul-zero
signed_mul true true (suc a) (suc b) = refl
