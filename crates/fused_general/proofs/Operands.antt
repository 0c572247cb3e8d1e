-- Operands as the code has them: floats that the format holds, with the bits that it takes from them. Assumes nothing.
use mathlib.Core.Path.{◌≡◌, sym, ap, ◌∙◌, subst}
use Prim.Native.Nat.{ℕ, ◌*◌, ◌%◌, ◌^◌, ◌<◌}
use native.Mathlib.Nat.{zero-mul, mul-zero, mul-pos}
use mathlib.Core.Bool.{Bool, true}
use lib.Dec.{T, leb}
use lib.Pow.{pow_pos}
use native.Mathlib.Omega.{arith}
use lib.Ieee.{Float, binary64, add, mul, fits, ones, top, to_bits}
use lib.Ieee.Bits.{of_bits-to_bits}
use lib.Ieee.Exact.{HasValue}
use lib.Ieee.Scale.{finite}
use Rattle.std.specs.Float.{float_is_finite}
use Rattle.rules.specs.Fused.{fused}
use Rattle.law_rounding.proofs.Values.{finite_field, bits_value}
use Rattle.fused_general.specs.Bits.{field, magnitude, Nonzero, summed}
use Rattle.fused_general.proofs.Unpack.{magnitude_zero, magnitude_pos}
use Rattle.fused_general.proofs.Values.{same_finite, fused_values, zero_product, zero_addend}

-- a Bool that a program's place knows to be true
pub held : {b : Bool} → b ≡ true → T b
held h = subst T (sym h) tt

pub field_lt : (x : Float) → T (fits binary64 x) → float_is_finite x ≡ true → field (to_bits binary64 x) < ones binary64
field_lt x fit fine = finite_field binary64 (to_bits binary64 x) (held (ap finite (of_bits-to_bits binary64 x fit) ∙ sym (same_finite x) ∙ fine))

pub nonzero : (x : Float) → T (fits binary64 x) → float_is_finite x ≡ true → (to_bits binary64 x % 2 ^ 63 ≡ 0 → ⊥) → Nonzero (to_bits binary64 x)
nonzero x fit fine h = (field_lt x fit fine, positive h)
  where
    positive : {n : ℕ} → (n ≡ 0 → ⊥) → 0 < n
    positive {n} h = omega arith

float_value : (x : Float) → T (fits binary64 x) → field (to_bits binary64 x) < ones binary64
    → HasValue x (leb (top binary64) (to_bits binary64 x)) (magnitude (to_bits binary64 x)) (2 ^ 1074)
float_value x fit l =
    subst (λ (v : Float). HasValue v (leb (top binary64) (to_bits binary64 x)) (magnitude (to_bits binary64 x)) (2 ^ 1074))
    (of_bits-to_bits binary64 x fit) (bits_value binary64 (to_bits binary64 x) l)

sign : Float → Bool
sign x = leb (top binary64) (to_bits binary64 x)

size : Float → ℕ
size x = magnitude (to_bits binary64 x)

-- ---- the definition at finite operands, by their bits

pub by_bits : (a b c : Float) → T (fits binary64 a) → T (fits binary64 b) → T (fits binary64 c) → field (to_bits binary64 a) < ones binary64
    → field (to_bits binary64 b) < ones binary64 → field (to_bits binary64 c) < ones binary64
    → fused binary64 a b c ≡ summed (to_bits binary64 a) (to_bits binary64 b) (to_bits binary64 c)
unfolding sign size
by_bits a b c p q r i j k =
    fused_values binary64 a b c (sign a) (size a) (sign b) (size b) (sign c) (size c) (2 ^ 1074) (pow_pos 1074) (float_value a p i)
    (float_value b q j) (float_value c r k)

module _ (a b c : Float) (p : T (fits binary64 a)) (q : T (fits binary64 b)) (r : T (fits binary64 c)) (i : float_is_finite a ≡ true)
    (j : float_is_finite b ≡ true) (k : float_is_finite c ≡ true) where
  no_product : size a * size b ≡ 0 → add binary64 (mul binary64 a b) c ≡ fused binary64 a b c
  unfolding sign size
  no_product =
      zero_product binary64 a b c (sign a) (size a) (sign b) (size b) (sign c) (size c) (2 ^ 1074) (pow_pos 1074)
      (float_value a p (field_lt a p i)) (float_value b q (field_lt b q j)) (float_value c r (field_lt c r k))

  pub zero_first : to_bits binary64 a % 2 ^ 63 ≡ 0 → add binary64 (mul binary64 a b) c ≡ fused binary64 a b c
  unfolding size
  zero_first z = no_product (ap (λ (n : ℕ). n * size b) (magnitude_zero (to_bits binary64 a) z) ∙ zero-mul (size b))

  pub zero_second : to_bits binary64 b % 2 ^ 63 ≡ 0 → add binary64 (mul binary64 a b) c ≡ fused binary64 a b c
  unfolding size
  zero_second z = no_product (ap (λ (n : ℕ). size a * n) (magnitude_zero (to_bits binary64 b) z) ∙ mul-zero (size a))

  pub zero_third : Nonzero (to_bits binary64 a) → Nonzero (to_bits binary64 b) → to_bits binary64 c % 2 ^ 63 ≡ 0 → mul binary64 a b ≡ fused binary64 a b c
  unfolding sign size
  zero_third x y z =
      zero_addend binary64 a b c (sign a) (size a) (sign b) (size b) (sign c) (size c) (2 ^ 1074) (pow_pos 1074)
      (float_value a p (field_lt a p i)) (float_value b q (field_lt b q j)) (float_value c r (field_lt c r k))
      (mul-pos (magnitude_pos (to_bits binary64 a) x.1) (magnitude_pos (to_bits binary64 b) y.1)) (magnitude_zero (to_bits binary64 c) z)
