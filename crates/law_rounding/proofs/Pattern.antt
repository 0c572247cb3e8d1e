-- Which bit pattern a rounded fraction has: the exponent's field is added to the digits kept, so that a carry out of the digits moves on into the
-- field, and from the infinity's pattern on it is the infinity's. Assumes nothing.
use mathlib.Core.Path.{◌≡◌, refl, sym, ap, ap₂, ◌∙◌, subst}
use mathlib.Core.Logic.{◌⊎◌, inl, inr}
use Prim.Native.Nat.{ℕ, suc, ◌+◌, ◌-◌, ◌*◌, ◌/◌, ◌%◌, ◌^◌, ◌≤◌, ◌<◌, min}
use native.Mathlib.Nat.{le_trans, le_of_eq, le_antisymm, lt_of_lt_of_le, lt_of_le_of_lt, lt_irrefl, lt_of_not-le}
use native.Mathlib.Nat.{mul_comm, suc-mul, mul-le-mul_right, mul-div_cancel, add_assoc, add-mul, mul-le-mul}
use native.Mathlib.Nat.{lt_of_mul-lt-mul_right, add-mod_left, mod-eq_of_lt, zero-add, min-eq_left, min-eq_right}
use native.Mathlib.Omega.{arith}
use mathlib.Core.Bool.{Bool, true, false, not, cond}
use lib.Dec.{T, lit<, ltb}
use lib.Arith.{le→nltb}
use lib.Pow.{pow-add, pow_pos, pow_mono, pow-lt, shl_lt}
use lib.IntN.{ℤ}
use lib.Ieee.{Float, nan, inf, fin, Format, prec, emax, low, up, down, size, odd, units, fits, hid, ones, top, of_bits, nan_bits, to_bits}
use lib.Ieee.Digits.{size-lt, size-le}
use lib.Ieee.Fits.{two, reach, down_pos, inf-fits}
use lib.Ieee.Bits.{cond_no, of_bits-to_bits, nan_bits_above}
use lib.Ieee.Exact.{HasValue, units_val}
use Rattle.law_rounding.proofs.Numbers.{less_or_not}

size_is : (a n : ℕ) → 2 ^ a ≤ n → n < 2 ^ suc a → size n ≡ suc a
size_is a n l u = le_antisymm (size-le n (suc a) u) (lt_of_not-le (λ (g : size n ≤ a). lt_irrefl n (lt_of_lt_of_le (size-lt n) (le_trans (pow_mono g) l))))

-- a power of two is twice the one before
pub twice : (p : ℕ) → 0 < p → 2 ^ p ≡ 2 ^ (p - 1) + 2 ^ (p - 1)
twice p h = ap (λ (x : ℕ). 2 ^ x) (pred p h) ∙ pow-add 2 (p - 1) 1 ∙ double (2 ^ (p - 1))
  where
    pred : (p : ℕ) → 0 < p → p ≡ p - 1 + 1
    pred p h = omega arith

    double : (a : ℕ) → a * 2 ≡ a + a
    double a = omega arith

-- A number of at most p digits, with k zeros after them. Where k is not 0 the first of the p digits is not 0.
abbrev pub Digits : ℕ → ℕ → ℕ → Type 0
Digits p q k = (q ≤ 2 ^ p) × ((k ≡ 0) ⊎ (2 ^ (p - 1) ≤ q))

-- what `to_bits` writes for q * 2 ^ k, its sign apart
written : (p q k : ℕ) → 0 < p → Digits p q k → (size (q * 2 ^ k) - p) * 2 ^ (p - 1) + q * 2 ^ k / 2 ^ (size (q * 2 ^ k) - p) ≡ k * 2 ^ (p - 1) + q
written p q k P (le, or) = elim (less_or_not q (2 ^ p)) [
  | inl l ↦ at k (drops or l) ∙ ap (λ (x : ℕ). k * 2 ^ (p - 1) + x) (mul-div_cancel q (pow_pos k))
  | inr g ↦ at (suc k) (full (le_antisymm le g)) ∙ carried (le_antisymm le g)
]
  where
    n : ℕ
    n = q * 2 ^ k

    at : (j : ℕ) → size n - p ≡ j → (size n - p) * 2 ^ (p - 1) + n / 2 ^ (size n - p) ≡ j * 2 ^ (p - 1) + n / 2 ^ j
    at j e = ap (λ (x : ℕ). x * 2 ^ (p - 1) + n / 2 ^ x) e

    none : (z p : ℕ) → z ≤ p + 0 → z - p ≡ 0
    none z p h = omega arith

    some : (p k : ℕ) → 0 < p → suc (p - 1 + k) - p ≡ k
    some p k h = omega arith

    longer : (p k : ℕ) → 0 < p → p + k ≡ suc (p - 1 + k)
    longer p k h = omega arith

    drops : (k ≡ 0) ⊎ (2 ^ (p - 1) ≤ q) → q < 2 ^ p → size n - p ≡ k
    drops (inl e) l = none (size n) p (size-le n (p + 0) (subst (λ (x : ℕ). q * 2 ^ k < 2 ^ (p + x)) e (shl_lt p k l))) ∙ sym e
    drops (inr g) l =
        ap (λ (x : ℕ). x - p)
        (size_is (p - 1 + k) n (le_trans (le_of_eq (pow-add 2 (p - 1) k)) (mul-le-mul_right (2 ^ k) g))
        (subst (λ (x : ℕ). n < 2 ^ x) (longer p k P) (shl_lt p k l)))
        ∙ some p k P

    halves : n ≡ 2 ^ (p - 1) * 2 ^ suc k → n / 2 ^ suc k ≡ 2 ^ (p - 1)
    halves e = ap (λ (x : ℕ). x / 2 ^ suc k) e ∙ mul-div_cancel (2 ^ (p - 1)) (pow_pos (suc k))

    is_power : q ≡ 2 ^ p → n ≡ 2 ^ (p + k)
    is_power e = ap (λ (x : ℕ). x * 2 ^ k) e ∙ sym (pow-add 2 p k)

    spare : (p k : ℕ) → suc (p + k) - p ≡ suc k
    spare p k = omega arith

    shifted : (p k : ℕ) → 0 < p → p + k ≡ p - 1 + suc k
    shifted p k h = omega arith

    full : q ≡ 2 ^ p → size n - p ≡ suc k
    full e =
        ap (λ (x : ℕ). x - p)
        (size_is (p + k) n (le_of_eq (sym (is_power e))) (subst (λ (x : ℕ). x < 2 ^ suc (p + k)) (sym (is_power e)) (pow-lt (le_of_eq refl))))
        ∙ spare p k

    regroup : (a h b q : ℕ) → q ≡ h + h → b ≡ a + h → b + h ≡ a + q
    regroup a h b q e f = omega arith

    carried : q ≡ 2 ^ p → suc k * 2 ^ (p - 1) + n / 2 ^ suc k ≡ k * 2 ^ (p - 1) + q
    carried e =
        ap (λ (x : ℕ). suc k * 2 ^ (p - 1) + x) (halves (is_power e ∙ ap (λ (x : ℕ). 2 ^ x) (shifted p k P) ∙ pow-add 2 (p - 1) (suc k)))
        ∙ regroup (k * 2 ^ (p - 1)) (2 ^ (p - 1)) (suc k * 2 ^ (p - 1)) q (e ∙ twice p P) (suc-mul k (2 ^ (p - 1)))

prec_pos : (f : Format) → 0 < prec f
prec_pos f = lt_of_lt_of_le (lit< tt) (two f)

to_bits_is : (f : Format) (s : Bool) (m : ℕ) (e : ℤ) (n : ℕ) → m * up e * 2 ^ low f / down e ≡ n
    → to_bits f (fin s m e) ≡ cond s (top f) 0 + (size n - prec f) * hid f + n / 2 ^ (size n - prec f)
unfolding to_bits
to_bits_is f s m e n p = ap (λ (x : ℕ). cond s (top f) 0 + (size x - prec f) * hid f + x / 2 ^ (size x - prec f)) p

-- a value of the format that is q * 2 ^ k of its smallest
value_bits : (f : Format) (v : Float) (s : Bool) (q k : ℕ) → T (fits f v) → HasValue v s (q * 2 ^ k) (2 ^ low f) → Digits (prec f) q k
    → v ≡ of_bits f (cond s (top f) 0 + (k * hid f + q))
value_bits f nan s q k h v d = absurd v
value_bits f (inf t) s q k h v d = absurd v
value_bits f (fin t m e) s q k h (same, v) d =
    sym (of_bits-to_bits f (fin t m e) h)
    ∙ ap (of_bits f)
    (to_bits_is f t m e (q * 2 ^ k) (ap (λ (x : ℕ). x / down e) v ∙ mul-div_cancel (q * 2 ^ k) (down_pos e))
    ∙ add_assoc (cond t (top f) 0) ((size (q * 2 ^ k) - prec f) * hid f) (q * 2 ^ k / 2 ^ (size (q * 2 ^ k) - prec f))
    ∙ ap₂ (λ (b : Bool) (x : ℕ). cond b (top f) 0 + x) same (written (prec f) q k (prec_pos f) d))

to_bits_inf : (f : Format) (s : Bool) → to_bits f (inf s) ≡ cond s (top f) 0 + ones f * hid f
unfolding to_bits
to_bits_inf f s = refl

infinity_bits : (f : Format) (s : Bool) → inf s ≡ of_bits f (cond s (top f) 0 + ones f * hid f)
infinity_bits f s = sym (of_bits-to_bits f (inf s) (inf-fits f s)) ∙ ap (of_bits f) (to_bits_inf f s)

-- Where the infinity's pattern is reached, for a format of p digits and the greatest exponent e: where the number reaches 2 ^ (e + 1), of which
-- the smallest values are 2 ^ (e + p - 2) times as many.
module _ (p e q k : ℕ) (P : 2 ≤ p) (R : p ≤ suc e) (d : Digits p q k) where
  -- with so many zeros the first digit is not 0
  leading : 2 * e ≤ k → 2 ^ (p - 1) ≤ q
  leading m = elim d.1 [
    | inl z ↦ absurd (none m z)
    | inr g ↦ g
  ]
    where
      none : 2 * e ≤ k → k ≡ 0 → ⊥
      none m z = omega arith

  exponents : e + p - 2 + suc e ≡ p - 1 + 2 * e
  exponents = omega arith

  below : 2 * e ≤ k → 2 ^ (e + p - 2 + suc e) ≤ q * 2 ^ k
  below m = le_trans (le_of_eq (ap (λ (x : ℕ). 2 ^ x) exponents ∙ pow-add 2 (p - 1) (2 * e))) (mul-le-mul (leading m) (pow_mono m))

  two_digits : 2 ^ p ≡ 2 ^ (p - 1) + 2 ^ (p - 1)
  two_digits = twice p (lt_of_lt_of_le (lit< tt) P)

  reaches_not : q * 2 ^ k < 2 ^ (e + p - 2 + suc e) → k * 2 ^ (p - 1) + q ≤ (2 * e + 1) * 2 ^ (p - 1)
  reaches_not l = elim (less_or_not ((2 * e + 1) * 2 ^ (p - 1)) (k * 2 ^ (p - 1) + q)) [
    | inr g ↦ g
    | inl g ↦
        let more : 2 * e + 1 < k + 2 = lt_of_mul-lt-mul_right (2 ^ (p - 1)) (room (2 ^ (p - 1)) (2 ^ p) g d.0 two_digits) in
        absurd (lt_irrefl (q * 2 ^ k) (lt_of_lt_of_le l (below (few more))))
  ]
    where
      room : (h w : ℕ) → (2 * e + 1) * h < k * h + q → q ≤ w → w ≡ h + h → (2 * e + 1) * h < (k + 2) * h
      room h w g le tw = let t : (k + 2) * h ≡ k * h + 2 * h = add-mul k 2 h in omega (arith, t, g, le, tw)

      few : 2 * e + 1 < k + 2 → 2 * e ≤ k
      few h = omega arith

  reaches : 2 ^ (e + p - 2 + suc e) ≤ q * 2 ^ k → (2 * e + 1) * 2 ^ (p - 1) ≤ k * 2 ^ (p - 1) + q
  reaches l = elim (less_or_not k (2 * e)) [
    | inr m ↦ many (2 ^ (p - 1)) (mul-le-mul_right (2 ^ (p - 1)) m) (leading m)
    | inl m ↦ elim (less_or_not q (2 ^ p)) [
      | inl g ↦ absurd (lt_irrefl (q * 2 ^ k) (lt_of_lt_of_le (shl_lt p k g) (le_trans (pow_mono (one_less m)) l)))
      | inr g ↦ full (less_or_not (suc k) (2 * e)) (le_antisymm d.0 g)
    ]
  ]
    where
      many : (h : ℕ) → 2 * e * h ≤ k * h → h ≤ q → (2 * e + 1) * h ≤ k * h + q
      many h m g = let t : (2 * e + 1) * h ≡ 2 * e * h + 1 * h = add-mul (2 * e) 1 h in omega (arith, t, m, g)

      one_less : k < 2 * e → p + k ≤ e + p - 2 + suc e
      one_less m = omega arith

      two_less : suc k < 2 * e → p + k < e + p - 2 + suc e
      two_less m = omega arith

      last : (h w : ℕ) → 2 * e ≤ suc k → q ≡ w → w ≡ h + h → (2 * e + 1) * h ≤ k * h + q
      last h w m a b =
          let t : (2 * e + 1) * h ≤ (k + 2) * h = mul-le-mul_right h (omega arith) in
          let u : (k + 2) * h ≡ k * h + 2 * h = add-mul k 2 h in
          omega (arith, t, u, a, b)

      full : (suc k < 2 * e) ⊎ (2 * e ≤ suc k) → q ≡ 2 ^ p → (2 * e + 1) * 2 ^ (p - 1) ≤ k * 2 ^ (p - 1) + q
      full (inl m) w =
          let less : q * 2 ^ k < 2 ^ (e + p - 2 + suc e) =
          subst (λ (x : ℕ). x < 2 ^ (e + p - 2 + suc e)) (pow-add 2 p k ∙ ap (λ (x : ℕ). x * 2 ^ k) (sym w)) (pow-lt (two_less m)) in
          absurd (lt_irrefl (q * 2 ^ k) (lt_of_lt_of_le less l))
      full (inr m) w = last (2 ^ (p - 1)) (2 ^ p) m w two_digits

-- q * 2 ^ k of the smallest values, or the infinity
pub units_bits : (f : Format) (s : Bool) (q k : ℕ) → T (fits f (units f s q k)) → Digits (prec f) q k
    → units f s q k ≡ of_bits f (cond s (top f) 0 + min (k * hid f + q) (ones f * hid f))
units_bits f s q k h d = elim (less_or_not (q * 2 ^ k) (2 ^ (low f + suc (emax f)))) [
  | inl l ↦
      value_bits f (units f s q k) s q k h (units_val f s q k l) d
      ∙ ap (λ (x : ℕ). of_bits f (cond s (top f) 0 + x)) (sym (min-eq_left (reaches_not (prec f) (emax f) q k (two f) (reach f) d l)))
  | inr g ↦
      overflowed f s q k g
      ∙ infinity_bits f s
      ∙ ap (λ (x : ℕ). of_bits f (cond s (top f) 0 + x)) (sym (min-eq_right (reaches (prec f) (emax f) q k (two f) (reach f) d g)))
]
  where
    overflowed : (f : Format) (s : Bool) (q k : ℕ) → 2 ^ (low f + suc (emax f)) ≤ q * 2 ^ k → units f s q k ≡ inf s
    overflowed f s q k g =
        let end = 2 ^ (low f + suc (emax f)) in
        unfold units in cond_no (ltb (q * 2 ^ k) end) (odd (suc (prec f)) s q k (low f)) (inf s) (le→nltb (q * 2 ^ k) end g)

-- no pattern up to the infinity's is a NaN's
pub no_nan : (f : Format) (s : Bool) (b : ℕ) → b ≤ ones f * hid f → T (not (nan_bits f (cond s (top f) 0 + b)))
no_nan f s b l =
    subst (λ (t : Bool). T (not t)) (sym (nan_bits_above f (cond s (top f) 0 + b)))
    (le→nltb (ones f * hid f) ((cond s (top f) 0 + b) % top f) (le_trans (le_of_eq (off s)) l))
  where
    under : b < top f
    under = lt_of_le_of_lt l (lt_of_lt_of_le (more (hid f) (pow_pos (prec f - 1)) (suc-mul (ones f) (hid f))) (le_of_eq (mul_comm (suc (ones f)) (hid f))))
      where
        more : (h : ℕ) → 0 < h → {z : ℕ} → z ≡ ones f * h + h → ones f * h < z
        more h p {z} e = omega arith

    off : (s : Bool) → (cond s (top f) 0 + b) % top f ≡ b
    off true = add-mod_left (top f) b ∙ mod-eq_of_lt under
    off false = ap (λ (x : ℕ). x % top f) (zero-add b) ∙ mod-eq_of_lt under
