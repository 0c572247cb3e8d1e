-- Numbers that the format holds. Such a number is the only value of its size and sign (`value_unique`), it is rounded to itself (`round_held`), and a
-- difference that is such a number is exact (`difference_held`). Assumes nothing.
use mathlib.Core.Path.{◌≡◌, refl, sym, ap, ap₂, ◌∙◌, subst}
use mathlib.Core.Logic.{inl, inr}
use Prim.Native.Nat.{ℕ, zero, suc, ◌+◌, ◌-◌, ◌*◌, ◌/◌, ◌%◌, ◌^◌, ◌≤◌, ◌<◌}
use native.Mathlib.Nat.{mul-one, one-mul, zero-mul, mul_assoc, mul_comm, mul_right_comm, mul-lt-mul_of_pos_right}
use native.Mathlib.Nat.{lt_of_mul-lt-mul_right, eq_of_mul-eq-mul_right, not-le_of_lt, zero-lt-suc}
use native.Mathlib.Omega.{arith}
use mathlib.Core.Bool.{Bool, not, cond, ◌&&◌}
use lib.IntN.{ℤ, pos, negsuc}
use lib.Dec.{T, leb, ltb, eqb, leb→le, le→leb, ltb→lt, lt→ltb, eqb→eq}
use lib.Pow.{pow-add, pow_pos, pow-lt}
use lib.Ieee.{Float, nan, inf, fin, Format, prec, emax, low, up, down, size, round, neg, sub, fits, hid, top, of_bits, to_bits}
use lib.Ieee.Bits.{of_bits-to_bits}
use lib.Ieee.Digits.{back}
use lib.Ieee.Exact.{HasValue, round_exact}
use lib.Ieee.Fits.{down_pos, and_i, and_l, and_r, eq→eqb, round-fits}
use lib.Ieee.Nearest.{div_same}
use Rattle.law_rounding.proofs.Numbers.{less_or_not}
use Rattle.law_rounding.proofs.Sums.{sum_more}
use Rattle.law_rounding.proofs.Values.{round_zero, neg_value, add_values}

-- ---- a value by its size and sign

-- the bits of a number of n of the format's smallest values
bits_at : Format → Bool → ℕ → ℕ
bits_at f s n = cond s (top f) 0 + (size n - prec f) * hid f + n / 2 ^ (size n - prec f)

bits_by_value : (f : Format) (x : Float) (s : Bool) (a c : ℕ) → 0 < c → HasValue x s a c → to_bits f x ≡ bits_at f s (a * 2 ^ low f / c)
unfolding to_bits bits_at
bits_by_value f nan s a c p v = absurd v
bits_by_value f (inf t) s a c p v = absurd v
bits_by_value f (fin t m e) s a c p (i, v) =
    ap₂ (bits_at f) i
    (div_same (m * up e * 2 ^ low f) (down e) (a * 2 ^ low f) c (down_pos e) p
    (mul_right_comm (m * up e) (2 ^ low f) c ∙ ap (λ (k : ℕ). k * 2 ^ low f) v ∙ mul_right_comm a (down e) (2 ^ low f)))

pub value_unique : (f : Format) (x y : Float) (s : Bool) (a c : ℕ) → 0 < c → T (fits f x) → T (fits f y) → HasValue x s a c → HasValue y s a c → x ≡ y
value_unique f x y s a c p q r v w = by_bits x q v ∙ sym (by_bits y r w)
  where
    by_bits : (x : Float) → T (fits f x) → HasValue x s a c → x ≡ of_bits f (bits_at f s (a * 2 ^ low f / c))
    by_bits x q v = sym (of_bits-to_bits f x q) ∙ ap (of_bits f) (bits_by_value f x s a c p v)

-- ---- what the format asks of m × 2^e where m is not 0: one way to write it, no more digits than there is room for, and an exponent in the range

pub record Held (f : Format) (m : ℕ) (e : ℤ) : Type 0 where
  pub odd : m % 2 ≡ 1
  pub digits : m < 2 ^ prec f
  pub lowest : down e ≤ 2 ^ low f
  pub range : m * up e < 2 ^ suc (emax f) * down e

pub fits_held : (f : Format) (s : Bool) (m : ℕ) (e : ℤ) → 0 < m → T (fits f (fin s m e)) → Held f m e
unfolding fits
fits_held f s zero e p t = absurd (omega (arith, p))
fits_held f s (suc m) e p t =
    let o = eqb (suc m % 2) 1 in
    let d = ltb (suc m) (2 ^ prec f) in
    let l = leb (down e) (2 ^ low f) in
    let r = ltb (suc m * up e) (2 ^ suc (emax f) * down e) in
    let odl = and_l (o && d && l) r t in
    let od = and_l (o && d) l odl in
    record {
      odd = eqb→eq _ 1 (and_l o d od);
      digits = ltb→lt _ _ (and_r o d od);
      lowest = leb→le _ _ (and_r (o && d) l odl);
      range = ltb→lt _ _ (and_r (o && d && l) r t);
    }

pub held_fits : (f : Format) (s : Bool) (m : ℕ) (e : ℤ) → Held f m e → T (fits f (fin s m e))
unfolding fits
held_fits f s zero e h = absurd (omega (arith, h.odd))
held_fits f s (suc m) e h =
    let o = eqb (suc m % 2) 1 in
    let d = ltb (suc m) (2 ^ prec f) in
    let l = leb (down e) (2 ^ low f) in
    and_i (o && d && l) (ltb (suc m * up e) (2 ^ suc (emax f) * down e))
    (and_i (o && d) l (and_i o d (eq→eqb h.odd) (lt→ltb _ _ h.digits)) (le→leb _ _ h.lowest))
    (lt→ltb _ _ h.range)

-- ---- such a number is rounded to itself

-- 2^e in units of 2^-l is a power of two
in_units : (e : ℤ) (l : ℕ) → down e ≤ 2 ^ l → (j : ℕ) × (up e * 2 ^ l ≡ 2 ^ j * down e)
in_units (pos k) l h = (k + l, sym (pow-add 2 k l) ∙ sym (mul-one (2 ^ (k + l))))
in_units (negsuc k) l h = elim (less_or_not l (suc k)) [
  | inl g ↦ absurd (not-le_of_lt (pow-lt g) h)
  | inr g ↦ (l - suc k, one-mul (2 ^ l) ∙ ap (λ (i : ℕ). 2 ^ i) (sym (back l (suc k) g)) ∙ pow-add 2 (l - suc k) (suc k))
]

round_value : (f : Format) (x : Float) (s : Bool) (a c : ℕ) → 0 < c → T (fits f x) → HasValue x s a c → HasValue (round f s a c) s a c
round_value f nan s a c p q v = absurd v
round_value f (inf t) s a c p q v = absurd v
round_value f (fin t zero e) s a c p q (i, v) =
    subst (λ (n : ℕ). HasValue (round f s n c) s n c)
    (eq_of_mul-eq-mul_right (down e) (down_pos e) 0 a (zero-mul (down e) ∙ sym (ap (λ (n : ℕ). n * c) (zero-mul (up e)) ∙ zero-mul c) ∙ v))
    (subst (λ (x : Float). HasValue x s 0 c) (sym (round_zero f s c)) (refl, zero-mul c))
round_value f (fin t (suc m) e) s a c p q (i, v) =
    let h = fits_held f t (suc m) e (zero-lt-suc m) q in
    let j = in_units e (low f) h.lowest in
    let units : suc m * up e * 2 ^ low f ≡ suc m * 2 ^ j.0 * down e =
    mul_assoc (suc m) (up e) (2 ^ low f) ∙ ap (λ (n : ℕ). suc m * n) j.1 ∙ sym (mul_assoc (suc m) (2 ^ j.0) (down e)) in
    round_exact f s a c (suc m) j.0 p h.digits
    (lt_of_mul-lt-mul_right (down e)
    (rw (← units, pow-add, mul_assoc (2 ^ low f) (2 ^ suc (emax f)) (down e), mul_comm (2 ^ low f) (2 ^ suc (emax f) * down e))
    (mul-lt-mul_of_pos_right h.range (pow_pos (low f)))))
    (eq_of_mul-eq-mul_right (down e) (down_pos e) (a * 2 ^ low f) (suc m * 2 ^ j.0 * c)
    (mul_right_comm a (2 ^ low f) (down e)
    ∙ ap (λ (n : ℕ). n * 2 ^ low f) (sym v)
    ∙ mul_right_comm (suc m * up e) c (2 ^ low f)
    ∙ ap (λ (n : ℕ). n * c) units
    ∙ mul_right_comm (suc m * 2 ^ j.0) (down e) c))

pub round_held : (f : Format) (x : Float) (s : Bool) (a c : ℕ) → 0 < c → T (fits f x) → HasValue x s a c → round f s a c ≡ x
round_held f x s a c p q v = value_unique f (round f s a c) x s a c p (round-fits f s a c) q (round_value f x s a c p q v) v

-- x − y where |y| is below |x|: if the format holds the difference z, it is the result
pub difference_held : (f : Format) (x y z : Float) (s : Bool) (a b c : ℕ) → 0 < c → HasValue x s a c → HasValue y s b c → b < a
    → T (fits f z) → HasValue z s (a - b) c → sub f x y ≡ z
unfolding sub
difference_held f x y z s a b c p v w l q u =
    add_values f x (neg y) s a (not s) b c p v (neg_value y s b c w) ∙ sum_more f s a b c l ∙ round_held f z s (a - b) c p q u
