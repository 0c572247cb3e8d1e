-- A number above 0 and below the count of segments: its whole part is a segment's number (`segment_inside`), and taking the whole part away leaves the
-- rest without rounding (`rest_exact`). Assumes nothing.
use Rattle.std.proofs.Common.{◌≡◌, ℕ, zero, suc, ◌+◌, ◌-◌, ◌*◌, ◌/◌, ◌%◌, ◌^◌, ◌<◌, ◌≤◌, min, Bool, true, false, cond, ◌&&◌, ◌||◌, T, eqb, ltb, ℤ, pos, negsuc, sym, refl, ap, ◌∙◌, subst, inl, inr, le_trans, le_refl, lt_of_lt_of_le, le-add_right, lt_of_le_of_lt, le_of_lt, mul-le-mul_right, zero-lt-suc, div-lt_iff_lt-mul, one-mul, div-add-mod', zero-mul, mul-one, div-le_self, div-one, arith, lit≤, ltb→lt, lt→ltb, pow_pos, lt-ltb}
use native.Mathlib.Nat.{mod-le, mod-eq-sub-div-mul}
use native.Mathlib.Numerals.{suc-eq-add-one}
use lib.Pow.{mod-mod-pow}
use lib.Ieee.{Float, nan, inf, fin, binary64, up, down, of_int, fits, lt, le, is_nan, to_unsigned}
use lib.Ieee.Back.{round_whole}
use lib.Ieee.Exact.{HasValue}
use lib.Ieee.Fits.{down_pos}
use lib.Ieee.Order.{le_of_values}
use lib.Ieee.Positive.{positive, num, den, den_pos}
use Rattle.rules.specs.declared.SegmentUnits.{SegmentUnits}
use Rattle.rules.specs.declared.SegmentTau.{SegmentTau}
use Rattle.rules.specs.Floats.{◌⊖◌, +0, +1, of_count}
use Rattle.rules.specs.Query.{whole_part, exact_rest, located}
use Rattle.law_rounding.proofs.Numbers.{less_or_not}
use Rattle.law_rounding.proofs.Held.{Held, fits_held, held_fits, round_held, difference_held}
use Rattle.law_rounding.proofs.Values.{value_scaled, sub_self}

-- a count of no more digits than the format has is its own number
count_value : (n : ℕ) → n ≤ 2 ^ 53 → HasValue (of_count n) false n 1
unfolding of_int
count_value n h = round_whole binary64 false n h

-- ---- the rest

-- m / d with m odd and d a power of two
module _ (m k : ℕ) (q : T (fits binary64 (fin false m (negsuc k)))) (p : 0 < m) where
  d : ℕ
  d = 2 ^ suc k

  held : Held binary64 m (negsuc k)
  held = fits_held binary64 false m (negsuc k) p q

  rest_odd : m % d % 2 ≡ 1
  unfolding d
  rest_odd = ap (λ i. m % 2 ^ i % 2) (suc-eq-add-one k) ∙ mod-mod-pow m k 1 ∙ held.odd

  -- The rest of m / d is odd again, no larger than m, and over the same power of two, so the format holds it.
  rest_fits : T (fits binary64 (fin false (m % d) (negsuc k)))
  unfolding d
  rest_fits = held_fits binary64 false (m % d) (negsuc k) record {
    odd = rest_odd;
    digits = lt_of_le_of_lt (mod-le m d) held.digits;
    lowest = held.lowest;
    range = lt_of_le_of_lt (mul-le-mul_right 1 (mod-le m d)) held.range;
  }

  -- the quotient is no larger than m, so its float is exact
  whole_value : HasValue (of_count (m / d)) false (m / d * d) d
  whole_value =
      subst (HasValue (of_count (m / d)) false (m / d * d)) (one-mul d)
      (value_scaled (of_count (m / d)) false (m / d) 1 d (count_value (m / d) (le_trans (div-le_self m d) (le_of_lt held.digits))))

  -- so the difference, rounded, is the remainder
  fraction : fin false m (negsuc k) ⊖ of_count (m / d) ≡ fin false (m % d) (negsuc k)
  unfolding d
  fraction =
      let parts = div-add-mod' m d in
      let odd = rest_odd in
      difference_held binary64 (fin false m (negsuc k)) (of_count (m / d)) (fin false (m % d) (negsuc k)) false m (m / d * d) d (pow_pos (suc k))
      (refl, ap (λ n. n * d) (mul-one m)) whole_value (omega arith) rest_fits (refl, ap (λ n. n * d) (mul-one (m % d) ∙ mod-eq-sub-div-mul m d))

-- R25: the subtraction loses nothing: for every f64 that is finite and above 0 the rounded difference is the remainder, which nothing rounds.
-- (A number m × 2^k has no rest, since it is its own whole part.)
pub rest_exact : (x : Float) → T (fits binary64 x) → T (positive x) → x ⊖ of_count (whole_part x) ≡ exact_rest x
unfolding whole_part exact_rest of_int d
rest_exact nan q p = absurd p
rest_exact (inf s) q p = absurd p
rest_exact (fin true m e) q p = absurd p
rest_exact (fin false m (pos k)) q p =
    ap (λ y. fin false m (pos k) ⊖ y) (round_held binary64 (fin false m (pos k)) false (m * 2 ^ k) 1 (zero-lt-suc 0) q (refl, refl))
    ∙ sub_self binary64 false m (pos k)
rest_exact (fin false m (negsuc k)) q p = fraction m k q (ltb→lt 0 m p)

-- ---- the whole part

-- finite, above 0 and below n
pub record Inside (n : ℕ) (x : Float) : Type 0 where
  pub above : T (positive x)
  pub below : num x < n * den x

refuted : {b : Bool} → T b → b ≡ false → ⊥
refuted t e = subst T e t

-- every finite number is below infinity
under_infinity : (y : Float) (s : Bool) (a c : ℕ) → HasValue y s a c → T (le y (inf false))
unfolding le
under_infinity nan s a c v = absurd v
under_infinity (inf t) s a c v = absurd v
under_infinity (fin t m e) s a c v = tt

-- −a is at most 0
negative : (a b : ℕ) → b ≡ 0 → T (ltb 0 (a + b) || eqb a b && eqb a 0)
negative zero b e = rw e tt
negative (suc a) b e = rw (lt-ltb 0 (suc a + b) (omega arith)) tt

-- what the two tests of `located` leave
pub inside : (n : ℕ) (x : Float) → n ≤ 2 ^ 53 → is_nan x ≡ false → le x +0 ≡ false → le (of_count n) x ≡ false → Inside n x
unfolding is_nan le
inside n nan h g a b = absurd (refuted tt g)
inside n (inf true) h g a b = absurd (refuted tt a)
inside n (inf false) h g a b = absurd (refuted (under_infinity (of_count n) false n 1 (count_value n h)) b)
inside n (fin true m e) h g a b = absurd (refuted (negative (m * up e * 1) (0 * down e) (zero-mul (down e))) a)
inside n (fin false zero e) h g a b =
    absurd
    (refuted
    (le_of_values (fin false 0 e) +0 0 1 0 1 (zero-lt-suc 0) (zero-lt-suc 0) (refl, rw (zero-mul (up e), zero-mul (down e)) refl) (refl, refl) (le_refl 0))
    a)
inside n (fin false (suc m) e) h g a b =
    let size = suc m * up e in
    record {
      above = lt→ltb 0 (suc m) (zero-lt-suc m);
      below = elim (less_or_not size (n * down e)) [
        | inl l ↦ l
        | inr r ↦
            absurd
            (refuted
            (le_of_values (of_count n) (fin false (suc m) e) n 1 size (down e) (zero-lt-suc 0) (down_pos e) (count_value n h) (refl, refl) (rw mul-one r))
            b)
      ];
    }

-- the definition's two cases are one quotient
whole_is : (x : Float) → T (positive x) → whole_part x ≡ num x / den x
unfolding whole_part
whole_is nan p = absurd p
whole_is (inf s) p = absurd p
whole_is (fin s m (pos k)) p = sym (div-one (m * 2 ^ k))
whole_is (fin s m (negsuc k)) p = ap (λ n. n / 2 ^ suc k) (sym (mul-one m))

pub whole_below : {n : ℕ} {x : Float} → Inside n x → whole_part x < n
whole_below {n} {x} i = rw (whole_is x i.above) ((div-lt_iff_lt-mul (den_pos x)).1 i.below)

-- a finite number above 0 by its digits and its exponent
by_parts : (P : Float → Type 0) → ((m : ℕ) (e : ℤ) → P (fin false m e)) → (x : Float) → T (positive x) → P x
by_parts P f nan p = absurd p
by_parts P f (inf s) p = absurd p
by_parts P f (fin true m e) p = absurd p
by_parts P f (fin false m e) p = f m e

-- A word that holds n has room for the truncation, which is the whole part. It asks for a number above −1 and below 2^w.
pub truncation : (w : ℕ) {n : ℕ} {x : Float} → n ≤ 2 ^ w → Inside n x → to_unsigned w x ≡ whole_part x
unfolding to_unsigned
truncation w {n} {x} h i =
    by_parts (λ x. whole_part x ≡ num x / den x → whole_part x < 2 ^ w → to_unsigned w x ≡ whole_part x) go x i.above (whole_is x i.above)
    (lt_of_lt_of_le (whole_below i) h)
  where
    uncapped : (a c : ℕ) → a < c → min a (c - 1) ≡ a
    uncapped a c h = omega arith

    go : (m : ℕ) (e : ℤ) → whole_part (fin false m e) ≡ m * up e / down e → whole_part (fin false m e) < 2 ^ w
        → to_unsigned w (fin false m e) ≡ whole_part (fin false m e)
    go m e whole l = uncapped (m * up e / down e) (2 ^ w) (rw (← whole) l) ∙ sym whole

pub above_minus_one : {n : ℕ} {x : Float} → Inside n x → T (lt (fin true 1 (pos 0)) x)
unfolding lt
above_minus_one {n} {x} i =
    by_parts (λ x. T (lt (fin true 1 (pos 0)) x))
    (λ m e. lt→ltb 0 (1 * down e + m * up e * 1) (lt_of_lt_of_le (down_pos e) (rw one-mul (le-add_right (down e) (m * up e * 1))))) x i.above

pub below_power : (w : ℕ) {n : ℕ} {x : Float} → n ≤ 2 ^ w → Inside n x → T (lt x (fin false 1 (pos w)))
unfolding lt
below_power w {n} {x} h i =
    by_parts (λ x. num x < 2 ^ w * den x → T (lt x (fin false 1 (pos w))))
    (λ m e l. lt→ltb (m * up e * 1) (1 * 2 ^ w * down e) (rw (mul-one, one-mul) l)) x i.above
    (lt_of_lt_of_le i.below (mul-le-mul_right (den x) h))

-- ---- the lookup stays among the segments

pub segment_inside : (segments : ℕ) (x : SegmentUnits) → 1 ≤ segments → segments ≤ 256 → is_nan x.0 ≡ false
    → (located segments x).segment < segments
unfolding located
segment_inside n x p h g = go (le x.0 +0) (le (of_count n) x.0) (inside n x.0 (le_trans h (lit≤ tt)) g)
  where
    at : ℕ → Float → SegmentTau
    at segment tau = record { segment = segment; tau = record { 0 = tau } }

    go : (b c : Bool) → (b ≡ false → c ≡ false → Inside n x.0)
        → (cond b (at 0 +0) (cond c (at (n - 1) +1) (at (whole_part x.0) (exact_rest x.0)))).segment < n
    go true c i = p
    go false true i = omega arith
    go false false i = whole_below (i refl refl)
