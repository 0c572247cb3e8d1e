-- The definition of the fused multiply-add by its operands' values, and the operands for which no sum of whole numbers is worked out. Assumes nothing.
use mathlib.Core.Path.{◌≡◌, refl, sym, ap, ap₂, ◌∙◌, subst}
use mathlib.Core.Logic.{◌⊎◌, inl, inr}
use Prim.Native.Nat.{ℕ, ◌*◌, ◌<◌}
use native.Mathlib.Nat.{mul-pos, mul_assoc, mul_comm, mul_left_comm, mul_right_comm, zero-mul, add-zero, sub-zero, eq_of_mul-eq-mul_right}
use mathlib.Core.Bool.{Bool, true, false, not}
use lib.IntN.{pos, ◌+ℤ◌}
use lib.Dec.{T}
use lib.Ieee.{Float, nan, inf, fin, Format, unlike, up, down, round, sum, add, mul, is_nan}
use lib.Ieee.Fits.{down_pos}
use lib.Ieee.Exact.{HasValue}
use lib.Ieee.Scale.{finite}
use Rattle.std.specs.Float.{float_is_finite}
use Rattle.rules.specs.Fused.{exact_product, fused}
use Rattle.law_rounding.proofs.Sums.{by_signs, sum_like, sum_more}
use Rattle.law_rounding.proofs.Values.{power_add, cross_product, value_scaled, add_values, mul_values, round_zero}

-- ---- finite operands

-- the exact product has the product of the values
product_value : (x y : Float) (s : Bool) (a c : ℕ) (t : Bool) (b d : ℕ) → HasValue x s a c → HasValue y t b d
    → HasValue (exact_product x y) (unlike s t) (a * b) (c * d)
unfolding exact_product
product_value nan y s a c t b d v w = absurd v
product_value (inf u) y s a c t b d v w = absurd v
product_value (fin u m e) nan s a c t b d v w = absurd w
product_value (fin u m e) (inf r) s a c t b d v w = absurd w
product_value (fin u m e) (fin r n k) s a c t b d (i, v) (j, w) = (
  ap₂ unlike i j,
  eq_of_mul-eq-mul_right (down e * down k) (mul-pos (down_pos e) (down_pos k)) (m * n * up (e +ℤ k) * (c * d)) (a * b * down (e +ℤ k))
      (front (m * n) (up (e +ℤ k)) (c * d) (down e * down k)
      ∙ ap (λ (z : ℕ). m * n * z * (c * d)) (power_add e k)
      ∙ middle m n (up e) (up k) (down (e +ℤ k)) (c * d)
      ∙ ap (λ (z : ℕ). z * down (e +ℤ k)) (cross_product (m * up e) c a (down e) (n * up k) d b (down k) v w)
      ∙ mul_right_comm (a * b) (down e * down k) (down (e +ℤ k))),
)
  where
    front : (p u c q : ℕ) → p * u * c * q ≡ p * (u * q) * c
    front p u c q = mul_right_comm (p * u) c q ∙ ap (λ (z : ℕ). z * c) (mul_assoc p u q)

    middle : (m n u v d c : ℕ) → m * n * (u * v * d) * c ≡ m * u * (n * v) * c * d
    middle m n u v d c = simp (mul_assoc, mul_comm, mul_left_comm)

-- all over the same denominator d
pub fused_values : (f : Format) (x y z : Float) (s : Bool) (a : ℕ) (t : Bool) (b : ℕ) (u : Bool) (c d : ℕ) → 0 < d → HasValue x s a d → HasValue y t b d
    → HasValue z u c d
    → fused f x y z ≡ sum f (unlike s t) (a * b) u (c * d) (d * d)
unfolding fused
fused_values f x y z s a t b u c d p v w k =
    add_values f (exact_product x y) z (unlike s t) (a * b) u (c * d) (d * d) (mul-pos p p) (product_value x y s a d t b d v w) (value_scaled z u c d d k)

-- ---- a product of zero

pub zero_product : (f : Format) (x y z : Float) (s : Bool) (a : ℕ) (t : Bool) (b : ℕ) (u : Bool) (c d : ℕ) → 0 < d → HasValue x s a d → HasValue y t b d
    → HasValue z u c d → a * b ≡ 0
    → add f (mul f x y) z ≡ fused f x y z
zero_product f x y z s a t b u c d p v w k e =
    ap (λ (m : Float). add f m z) (mul_values f x y s a d t b d p p v w ∙ ap (λ (n : ℕ). round f (unlike s t) n (d * d)) e ∙ round_zero f (unlike s t) (d * d))
    ∙ add_values f (fin (unlike s t) 0 (pos 0)) z (unlike s t) 0 u (c * d) (d * d) (mul-pos p p) (refl, zero-mul (d * d)) (value_scaled z u c d d k)
    ∙ ap (λ (n : ℕ). sum f (unlike s t) n u (c * d) (d * d)) (sym e)
    ∙ sym (fused_values f x y z s a t b u c d p v w k)

-- ---- an addend of zero

pub zero_addend : (f : Format) (x y z : Float) (s : Bool) (a : ℕ) (t : Bool) (b : ℕ) (u : Bool) (c d : ℕ) → 0 < d → HasValue x s a d → HasValue y t b d
    → HasValue z u c d → 0 < a * b → c ≡ 0
    → mul f x y ≡ fused f x y z
zero_addend f x y z s a t b u c d p v w k l e =
    mul_values f x y s a d t b d p p v w
    ∙ sym (by_signs (λ (r u : Bool). sum f r (a * b) u 0 (d * d) ≡ round f r (a * b) (d * d)) like other (unlike s t) u)
    ∙ ap (λ (n : ℕ). sum f (unlike s t) (a * b) u n (d * d)) (sym (ap (λ (n : ℕ). n * d) e ∙ zero-mul d))
    ∙ sym (fused_values f x y z s a t b u c d p v w k)
  where
    like : (r : Bool) → sum f r (a * b) r 0 (d * d) ≡ round f r (a * b) (d * d)
    like r = sum_like f r (a * b) 0 (d * d) ∙ ap (λ (n : ℕ). round f r n (d * d)) (add-zero (a * b))

    other : (r : Bool) → sum f r (a * b) (not r) 0 (d * d) ≡ round f r (a * b) (d * d)
    other r = sum_more f r (a * b) 0 (d * d) l ∙ ap (λ (n : ℕ). round f r n (d * d)) (sub-zero (a * b))

-- ---- operands that are not finite

differ : true ≡ false → ⊥
differ e = subst T e tt

-- the product is not rounded
unrounded : (f : Format) (x y : Float) → (float_is_finite x ≡ false) ⊎ (float_is_finite y ≡ false) → mul f x y ≡ exact_product x y
unfolding mul exact_product float_is_finite
unrounded f nan y h = refl
unrounded f (inf s) nan h = refl
unrounded f (inf s) (inf t) h = refl
unrounded f (inf s) (fin t n d) h = refl
unrounded f (fin s m e) nan h = refl
unrounded f (fin s m e) (inf t) h = refl
unrounded f (fin s m e) (fin t n d) (inl h) = absurd (differ h)
unrounded f (fin s m e) (fin t n d) (inr h) = absurd (differ h)

pub factor_not_finite : (f : Format) (x y z : Float) → (float_is_finite x ≡ false) ⊎ (float_is_finite y ≡ false) → add f (mul f x y) z ≡ fused f x y z
unfolding fused
factor_not_finite f x y z h = ap (λ (m : Float). add f m z) (unrounded f x y h)

pub addend_not_finite : (f : Format) (x y z : Float) → float_is_finite x ≡ true → float_is_finite y ≡ true → float_is_finite z ≡ false → z ≡ fused f x y z
unfolding fused add exact_product float_is_finite
addend_not_finite f nan y z h k l = absurd (differ (sym h))
addend_not_finite f (inf s) y z h k l = absurd (differ (sym h))
addend_not_finite f (fin s m e) nan z h k l = absurd (differ (sym k))
addend_not_finite f (fin s m e) (inf t) z h k l = absurd (differ (sym k))
addend_not_finite f (fin s m e) (fin t n d) nan h k l = refl
addend_not_finite f (fin s m e) (fin t n d) (inf u) h k l = refl
addend_not_finite f (fin s m e) (fin t n d) (fin u r i) h k l = absurd (differ l)

pub finite_no_nan : (x : Float) → float_is_finite x ≡ true → T (not (is_nan x))
unfolding is_nan float_is_finite
finite_no_nan nan h = absurd (differ (sym h))
finite_no_nan (inf s) h = tt
finite_no_nan (fin s m e) h = tt

-- std's test is the one that the laws of rounding speak of
pub same_finite : (x : Float) → float_is_finite x ≡ finite x
unfolding float_is_finite
same_finite nan = refl
same_finite (inf s) = refl
same_finite (fin s m e) = refl
