-- The kit's operations by their operands' values: which number a bit pattern is, and that a product and a sum of values are the product and the
-- sum of any fractions that the values equal. So x − x is 0 exactly where x is finite: `finite_test`. Assumes nothing.
use mathlib.Core.Path.{◌≡◌, refl, sym, ap, ap₂, ◌∙◌, subst}
use Prim.Native.Nat.compare
use Prim.Native.Nat.{ℕ, zero, suc, ◌+◌, ◌-◌, ◌*◌, ◌/◌, ◌%◌, ◌^◌, ◌≤◌, ◌<◌, compare}
use native.Mathlib.Nat.{zero-mul, mul-one, one-mul, mul_comm, mul_assoc, mul_right_comm, mul-pos, zero-div}
use native.Mathlib.Nat.{zero-mod, mod-lt, div-lt_iff_lt-mul, zero-lt-suc, le_of_suc-le-suc, mul-mul-mul_comm}
use native.Mathlib.Omega.{arith}
use mathlib.Core.Bool.{Bool, true, false, not, cond}
use lib.IntN.{ℤ, pos, negsuc, ◌+ℤ◌, sub_ℕ}
use lib.Dec.{T, leb, ltb, eqb, ltb→lt, nltb→le, not_T, eqb→eq}
use lib.Arith.{lt_of_le-ne}
use lib.Pow.{pow-add, pow_pos}
use lib.Ieee.{Float, nan, inf, fin, Format, binary32, binary64, prec, emax, low, unlike, up, down, size}
use lib.Ieee.{nearest, odd, units, round, neg, sum, add, sub, mul, eq, hid, ones, top, of_fields, of_bits}
use lib.Ieee.Digits.{size-le}
use lib.Ieee.Fits.{core, round_is, down_pos, eq→eqb}
use lib.Ieee.Bits.{cond_no}
use lib.Ieee.Exact.{HasValue, odd_sign, round_exact}
use lib.Ieee.Scale.{round_same, finite}
use Rattle.law_rounding.specs.Weight.{weight}
use Rattle.law_rounding.proofs.Sums.{sum_same, sum_none}

-- ---- zero, rounded

units_zero : (f : Format) (s : Bool) → units f s 0 0 ≡ fin s 0 (pos 0)
unfolding units odd
units_zero binary32 s = refl
units_zero binary64 s = refl

pub round_zero : (f : Format) (s : Bool) (c : ℕ) → round f s 0 c ≡ fin s 0 (pos 0)
round_zero f s c =
    round_is f s 0 c
    ∙ ap (λ (n : ℕ). core f s n c (size (n / c) - prec f)) (zero-mul (2 ^ low f))
    ∙ ap (core f s 0 c) none
    ∙ ap₂ (λ (a b : ℕ). units f s (nearest a (compare (b * 2) (c * 1))) 0) (zero-div (c * 1)) (zero-mod (c * 1))
    ∙ ap (λ (a : ℕ). units f s a 0) (stays (c * 1))
    ∙ units_zero f s
  where
    stays : (u : ℕ) → nearest 0 (compare 0 u) ≡ 0
    stays zero = ap (nearest 0) compare.zero-zero
    stays (suc u) = ap (nearest 0) (compare.zero-suc u)

    small : (z p : ℕ) → z ≤ 0 → z - p ≡ 0
    small z p h = omega arith

    none : size (0 / c) - prec f ≡ 0
    none = small (size (0 / c)) (prec f) (size-le (0 / c) 0 (subst (λ (x : ℕ). x < 1) (sym (zero-div c)) (zero-lt-suc 0)))

-- ---- the number of a bit pattern

field_in : (f : Format) (b : ℕ) → b % top f / hid f < suc (ones f)
field_in f b =
    (div-lt_iff_lt-mul (pow_pos (prec f - 1))).1
    (subst (λ (a : ℕ). b % top f < a) (mul_comm (hid f) (suc (ones f)))
    (mod-lt b (mul-pos (pow_pos (prec f - 1)) (zero-lt-suc (ones f)))))

ones_end : (f : Format) (s : Bool) (x t : ℕ) → x ≡ ones f → T (finite (of_fields f s x t)) → ⊥
unfolding of_fields
ones_end f s zero t e h = none (emax f) e
  where
    none : (a : ℕ) → 0 ≡ 2 * a + 1 → ⊥
    none a k = omega arith
ones_end f s (suc x) t e h = go (eqb (suc x) (ones f)) (eq→eqb e) (eqb t 0) h
  where
    go : (b : Bool) → T b → (c : Bool) → T (finite (cond b (cond c (inf s) nan) (odd (prec f) s (hid f + t) x (low f)))) → ⊥
    go true u true k = k
    go true u false k = k
    go false u c k = u

-- the exponent's field of a finite value is not all ones
pub finite_field : (f : Format) (b : ℕ) → T (finite (of_bits f b)) → b % top f / hid f < ones f
unfolding of_bits
finite_field f b h = lt_of_le-ne (le_of_suc-le-suc (field_in f b)) (λ e. ones_end f (leb (top f) b) (b % top f / hid f) (b % hid f) e h)

fields_value : (f : Format) (s : Bool) (x t : ℕ) → x < ones f → HasValue (of_fields f s x t) s (weight f x t) (2 ^ low f)
unfolding of_fields weight
fields_value f s zero t h = subst (λ (a : ℕ). HasValue (odd (prec f) s t 0 (low f)) s a (2 ^ low f)) (mul-one t) (odd_sign (prec f) s t 0 (low f))
fields_value f s (suc x) t h =
    subst (λ (v : Float). HasValue v s ((hid f + t) * 2 ^ x) (2 ^ low f))
    (sym (cond_no (eqb (suc x) (ones f)) (cond (eqb t 0) (inf s) nan) (odd (prec f) s (hid f + t) x (low f))
    (not_T (eqb (suc x) (ones f)) (λ e. unequal (suc x) (ones f) h (eqb→eq (suc x) (ones f) e)))))
    (odd_sign (prec f) s (hid f + t) x (low f))
  where
    unequal : (a b : ℕ) → a < b → a ≡ b → ⊥
    unequal a b l e = omega arith

-- a field of 0 has no leading digit, and any other has
pub weight_zero : (f : Format) (x t : ℕ) → x ≡ 0 → t ≡ weight f x t
unfolding weight
weight_zero f zero t e = refl
weight_zero f (suc x) t e = absurd (none x e)
  where
    none : (x : ℕ) → suc x ≡ 0 → ⊥
    none x e = omega arith

pub weight_more : (f : Format) (x t : ℕ) → 0 < x → (hid f + t) * 2 ^ (x - 1) ≡ weight f x t
unfolding weight
weight_more f zero t h = absurd (none h)
  where
    none : 0 < 0 → ⊥
    none h = omega arith
weight_more f (suc x) t h = ap (λ (k : ℕ). (hid f + t) * 2 ^ k) (pred x)
  where
    pred : (x : ℕ) → suc x - 1 ≡ x
    pred x = omega arith

pub bits_value : (f : Format) (b : ℕ) → b % top f / hid f < ones f
    → HasValue (of_bits f b) (leb (top f) b) (weight f (b % top f / hid f) (b % hid f)) (2 ^ low f)
unfolding of_bits
bits_value f b h = fields_value f (leb (top f) b) (b % top f / hid f) (b % hid f) h

-- ---- products and sums of values

-- 2 ^ (a - b)
sub_power : (a b : ℕ) → up (sub_ℕ a b) * 2 ^ b ≡ 2 ^ a * down (sub_ℕ a b)
sub_power a b = go (ltb a b) (ltb→lt a b) (nltb→le a b)
  where
    above : (a b : ℕ) → b ≤ a → a - b + b ≡ a
    above a b h = omega arith

    below : (a b : ℕ) → a < b → a + suc (b - suc a) ≡ b
    below a b h = omega arith

    go : (t : Bool) → (T t → a < b) → (T (not t) → b ≤ a)
        → up (cond t (negsuc (b - suc a)) (pos (a - b))) * 2 ^ b ≡ 2 ^ a * down (cond t (negsuc (b - suc a)) (pos (a - b)))
    go true l g = one-mul (2 ^ b) ∙ ap (λ (x : ℕ). 2 ^ x) (sym (below a b (l tt))) ∙ pow-add 2 a (suc (b - suc a))
    go false l g = sym (pow-add 2 (a - b) b) ∙ ap (λ (x : ℕ). 2 ^ x) (above a b (g tt)) ∙ sym (mul-one (2 ^ a))

-- 2 ^ (e + d) is 2 ^ e * 2 ^ d
pub power_add : (e d : ℤ) → up (e +ℤ d) * (down e * down d) ≡ up e * up d * down (e +ℤ d)
power_add (pos a) (pos b) = ap (λ (x : ℕ). x * 1) (pow-add 2 a b)
power_add (pos a) (negsuc b) =
    ap (λ (x : ℕ). up (sub_ℕ a (suc b)) * x) (one-mul (2 ^ suc b))
    ∙ sub_power a (suc b)
    ∙ ap (λ (x : ℕ). x * down (sub_ℕ a (suc b))) (sym (mul-one (2 ^ a)))
power_add (negsuc a) (pos b) =
    ap (λ (x : ℕ). up (sub_ℕ b (suc a)) * x) (mul-one (2 ^ suc a))
    ∙ sub_power b (suc a)
    ∙ ap (λ (x : ℕ). x * down (sub_ℕ b (suc a))) (sym (one-mul (2 ^ b)))
power_add (negsuc a) (negsuc b) = ap (λ (x : ℕ). 1 * x) (sym (pow-add 2 (suc a) (suc b)) ∙ ap (λ (x : ℕ). 2 ^ x) (twice a b))
  where
    twice : (a b : ℕ) → suc a + suc b ≡ suc (suc (a + b))
    twice a b = omega arith

pub value_scaled : (x : Float) (s : Bool) (a c d : ℕ) → HasValue x s a c → HasValue x s (a * d) (c * d)
value_scaled nan s a c d v = v
value_scaled (inf t) s a c d v = v
value_scaled (fin t m e) s a c d (same, v) = (same, sym (mul_assoc (m * up e) c d) ∙ ap (λ (x : ℕ). x * d) v ∙ mul_right_comm a (down e) d)

pub neg_value : (x : Float) (s : Bool) (a c : ℕ) → HasValue x s a c → HasValue (neg x) (not s) a c
unfolding neg
neg_value nan s a c v = v
neg_value (inf t) s a c v = v
neg_value (fin t m e) s a c (i, v) = (ap not i, v)

pub add_values : (f : Format) (x y : Float) (s : Bool) (a : ℕ) (t : Bool) (b c : ℕ) → 0 < c → HasValue x s a c → HasValue y t b c → add f x y ≡ sum f s a t b c
unfolding add
add_values f nan y s a t b c p v w = absurd v
add_values f (inf u) y s a t b c p v w = absurd v
add_values f (fin u m e) nan s a t b c p v w = absurd w
add_values f (fin u m e) (inf r) s a t b c p v w = absurd w
add_values f (fin u m e) (fin r n d) s a t b c p (i, v) (j, w) =
    ap₂ (λ (g h : Bool). sum f g (m * up e * down d) h (n * up d * down e) (down e * down d)) i j
    ∙ sum_same f s (m * up e * down d) t (n * up d * down e) (down e * down d) a b c (mul-pos (down_pos e) (down_pos d)) p
    (mul_right_comm (m * up e) (down d) c ∙ ap (λ (z : ℕ). z * down d) v ∙ mul_assoc a (down e) (down d))
    (mul_right_comm (n * up d) (down e) c ∙ ap (λ (z : ℕ). z * down e) w ∙ mul_assoc b (down d) (down e) ∙ ap (λ (z : ℕ). b * z) (mul_comm (down d) (down e)))

-- (p / q) * (p' / q') = (a / c) * (b / d)
pub cross_product : (p c a q p' d b q' : ℕ) → p * c ≡ a * q → p' * d ≡ b * q' → p * p' * (c * d) ≡ a * b * (q * q')
cross_product p c a q p' d b q' v w = mul-mul-mul_comm p p' c d ∙ ap₂ (λ (x y : ℕ). x * y) v w ∙ mul-mul-mul_comm a q b q'

pub mul_values : (f : Format) (x y : Float) (s : Bool) (a c : ℕ) (t : Bool) (b d : ℕ) → 0 < c → 0 < d → HasValue x s a c → HasValue y t b d
    → mul f x y ≡ round f (unlike s t) (a * b) (c * d)
unfolding mul
mul_values f nan y s a c t b d p q v w = absurd v
mul_values f (inf u) y s a c t b d p q v w = absurd v
mul_values f (fin u m e) nan s a c t b d p q v w = absurd w
mul_values f (fin u m e) (inf r) s a c t b d p q v w = absurd w
mul_values f (fin u m e) (fin r n z) s a c t b d p q (i, v) (j, w) =
    ap₂ (λ (g h : Bool). round f (unlike g h) (m * up e * (n * up z)) (down e * down z)) i j
    ∙ round_same f (unlike s t) (m * up e * (n * up z)) (down e * down z) (a * b) (c * d) (mul-pos (down_pos e) (down_pos z)) (mul-pos p q)
    (cross_product (m * up e) c a (down e) (n * up z) d b (down z) v w)

-- a fraction whose powers of two are moved
pub round_shift : (f : Format) (s : Bool) (x v a b c d : ℕ) → 0 < v → a + d ≡ c + b → round f s (x * 2 ^ a) (v * 2 ^ b) ≡ round f s (x * 2 ^ c) (v * 2 ^ d)
round_shift f s x v a b c d p e =
    round_same f s (x * 2 ^ a) (v * 2 ^ b) (x * 2 ^ c) (v * 2 ^ d) (mul-pos p (pow_pos b)) (mul-pos p (pow_pos d))
    (mul-mul-mul_comm x (2 ^ a) v (2 ^ d)
    ∙ ap (λ (n : ℕ). x * v * n) (sym (pow-add 2 a d) ∙ ap (λ (n : ℕ). 2 ^ n) e ∙ pow-add 2 c b)
    ∙ sym (mul-mul-mul_comm x (2 ^ c) v (2 ^ b)))

pub round_move : (f : Format) (s : Bool) (x a b c d : ℕ) → a + d ≡ c + b → round f s (x * 2 ^ a) (2 ^ b) ≡ round f s (x * 2 ^ c) (2 ^ d)
round_move f s x a b c d e =
    ap (round f s (x * 2 ^ a)) (sym (one-mul (2 ^ b))) ∙ round_shift f s x 1 a b c d (zero-lt-suc 0) e ∙ ap (round f s (x * 2 ^ c)) (one-mul (2 ^ d))

-- A whole number of the format's digits times a power of two that the format holds is exact.
pub power_times : (f : Format) (u p : Float) (t s : Bool) (h k : ℕ) → h < 2 ^ prec f → h * 2 ^ k < 2 ^ (low f + suc (emax f))
    → HasValue u t h 1 → HasValue p s (2 ^ k) (2 ^ low f) → HasValue (mul f u p) (unlike t s) (h * 2 ^ k) (2 ^ low f)
power_times f u p t s h k l o v w =
    subst (λ (x : Float). HasValue x (unlike t s) (h * 2 ^ k) (2 ^ low f))
    (sym (mul_values f u p t h 1 s (2 ^ k) (2 ^ low f) (zero-lt-suc 0) (pow_pos (low f)) v w ∙ ap (round f (unlike t s) (h * 2 ^ k)) (one-mul (2 ^ low f))))
    (round_exact f (unlike t s) (h * 2 ^ k) (2 ^ low f) h k (pow_pos (low f)) l o refl)

-- ---- x − x

pub sub_self : (f : Format) (s : Bool) (m : ℕ) (e : ℤ) → sub f (fin s m e) (fin s m e) ≡ fin false 0 (pos 0)
unfolding sub neg
sub_self f s m e =
    add_values f (fin s m e) (fin (not s) m e) s (m * up e) (not s) (m * up e) (down e) (down_pos e) (refl, refl) (refl, refl)
    ∙ sum_none f s (m * up e) (down e)
    ∙ round_zero f false (down e)

pub finite_test : (x : Float) → eq (sub binary64 x x) (of_bits binary64 0) ≡ finite x
unfolding sub neg add eq of_bits
finite_test nan = refl
finite_test (inf true) = refl
finite_test (inf false) = refl
finite_test (fin s m e) = ap (λ (z : Float). eq z (of_bits binary64 0)) (sub_self binary64 s m e)
