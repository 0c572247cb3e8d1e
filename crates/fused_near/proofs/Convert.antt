-- The common case: words as floats. What the functions of the code come to. Assumes nothing.
use mathlib.Core.Path.{◌≡◌, refl, sym, ap, ap₂, ◌∙◌, subst}
use mathlib.Core.Logic.{inl, inr}
use Prim.Native.Nat.{ℕ, suc, ◌+◌, ◌-◌, ◌*◌, ◌/◌, ◌%◌, ◌^◌, ◌≤◌, ◌<◌}
use native.Mathlib.Nat.{le_of_eq, le_of_lt, lt_of_lt_of_le, lt_of_le_of_lt, mul_assoc, div-add-mod', le-add_right, eq-zero-or-pos}
use native.Mathlib.Omega.{arith}
use mathlib.Core.Bool.{Bool, true, false, not, cond}
use lib.Dec.{T, leb, ltb, lit≤, le→leb, lt→ltb}
use lib.Arith.{lt→nleb, le→nltb}
use lib.IntN.{ℤ, pos, negsuc, ◌-ℤ◌, sub_ℕ}
use lib.Pow.{pow-add, pow_pos, pow_mono, shr-shr, shl_lt}
use mir.Syntax.{w64}
use mir.Val.{SFits, to_z, of_z}
use mir.Facts.{to_z_pos, to_z-of_z}
use lib.Ieee.{Float, binary64, unlike, round, add, mul, of_int, in_float, of_bits}
use lib.Ieee as Ieee
use lib.Ieee.Back.{round_whole}
use lib.Ieee.Bits.{is_true, is_false}
use lib.Ieee.Exact.{HasValue}
use lib.Ieee.Nearest.{div_same}
use Rattle.law_rounding.specs.Sticky.{Sticky}
use Rattle.law_rounding.specs.Weight.{weight}
use Rattle.law_rounding.proofs.Numbers.{less_or_not}
use Rattle.law_rounding.proofs.Sticky.{sticky_cut, sticky_add, sticky_from}
use Rattle.law_rounding.proofs.Word.{round_sticky}
use Rattle.law_rounding.proofs.Sums.{not_not, like_times, more_times}
use Rattle.law_rounding.proofs.Values.{bits_value, add_values, power_times, round_move, weight_more}
use Rattle.fused_words.proofs.Shift.{Marked}

-- ---- `lifted`

pub lifted_is : (m n : ℕ) → n < 64 → m / 2 / 2 ^ (63 - n) * 2 ^ 64 + m * 2 ^ n % 2 ^ 64 ≡ m * 2 ^ n
lifted_is m n h = ap (λ (k : ℕ). k * 2 ^ 64 + m * 2 ^ n % 2 ^ 64) high ∙ div-add-mod' (m * 2 ^ n) (2 ^ 64)
  where
    one_more : (n : ℕ) → n < 64 → 1 + (63 - n) ≡ 64 - n
    one_more n h = omega arith

    whole : (n : ℕ) → n < 64 → n + (64 - n) ≡ 64
    whole n h = omega arith

    high : m / 2 / 2 ^ (63 - n) ≡ m * 2 ^ n / 2 ^ 64
    high =
        shr-shr m 1 (63 - n)
        ∙ ap (λ (k : ℕ). m / 2 ^ k) (one_more n h)
        ∙ sym
        (div_same (m * 2 ^ n) (2 ^ 64) m (2 ^ (64 - n)) (pow_pos 64) (pow_pos (64 - n))
        (mul_assoc m (2 ^ n) (2 ^ (64 - n)) ∙ ap (λ (k : ℕ). m * k) (sym (pow-add 2 n (64 - n)) ∙ ap (λ (k : ℕ). 2 ^ k) (whole n h))))

-- ---- `power`

module _ (k : ℕ) (p : 0 < k) (q : k < 2047) where
  pattern_value : (b : ℕ) → b % 2 ^ 63 / 2 ^ 52 ≡ k → b % 2 ^ 52 ≡ 0 → HasValue (of_bits binary64 b) (leb (2 ^ 63) b) (2 ^ (k + 51)) (2 ^ 1074)
  pattern_value b e f =
      subst (λ (m : ℕ). HasValue (of_bits binary64 b) (leb (2 ^ 63) b) m (2 ^ 1074))
      (ap₂ (weight binary64) e f ∙ sym (weight_more binary64 k 0 p) ∙ sym (pow-add 2 52 (k - 1)) ∙ ap (λ (n : ℕ). 2 ^ n) (sums k p))
      (bits_value binary64 b (lt_of_le_of_lt (le_of_eq e) q))
    where
      sums : (k : ℕ) → 0 < k → 52 + (k - 1) ≡ k + 51
      sums k h = omega arith

  pub power_value : (s : Bool) → HasValue (of_bits binary64 (cond s (2 ^ 63) 0 + k * 2 ^ 52)) s (2 ^ (k + 51)) (2 ^ 1074)
  power_value true =
      subst (λ (s : Bool). HasValue (of_bits binary64 (2 ^ 63 + k * 2 ^ 52)) s (2 ^ (k + 51)) (2 ^ 1074))
      (is_true (leb (2 ^ 63) (2 ^ 63 + k * 2 ^ 52)) (le→leb (2 ^ 63) (2 ^ 63 + k * 2 ^ 52) (le-add_right (2 ^ 63) (k * 2 ^ 52))))
      (pattern_value (2 ^ 63 + k * 2 ^ 52) (omega arith) (omega arith))
  power_value false =
      subst (λ (s : Bool). HasValue (of_bits binary64 (0 + k * 2 ^ 52)) s (2 ^ (k + 51)) (2 ^ 1074))
      (is_false (leb (2 ^ 63) (0 + k * 2 ^ 52)) (lt→nleb (2 ^ 63) (0 + k * 2 ^ 52) (omega arith)))
      (pattern_value (0 + k * 2 ^ 52) (omega arith) (omega arith))

-- ---- `unbiased`

module _ (h : ℕ) (h-lt : h < 2 ^ 53) where
  number : to_z w64 h -ℤ pos (2 ^ 51) ≡ sub_ℕ h (2 ^ 51)
  number = ap (λ (z : ℤ). z -ℤ pos (2 ^ 51)) (to_z_pos w64 (lt_of_lt_of_le h-lt (lit≤ tt)))

  above : 2 ^ 51 ≤ h → sub_ℕ h (2 ^ 51) ≡ pos (h - 2 ^ 51)
  above l = ap (λ (t : Bool). cond t (negsuc (2 ^ 51 - suc h)) (pos (h - 2 ^ 51))) (is_false (ltb h (2 ^ 51)) (le→nltb h (2 ^ 51) l))

  below : h < 2 ^ 51 → sub_ℕ h (2 ^ 51) ≡ negsuc (2 ^ 51 - suc h)
  below l = ap (λ (t : Bool). cond t (negsuc (2 ^ 51 - suc h)) (pos (h - 2 ^ 51))) (is_true (ltb h (2 ^ 51)) (lt→ltb h (2 ^ 51) l))

  -- what holds of both ways to write the difference holds of it
  by_sign : (P : ℤ → Type 0) → ((n : ℕ) → n < 2 ^ 53 → P (pos n)) → ((n : ℕ) → n < 2 ^ 53 → P (negsuc n)) → P (sub_ℕ h (2 ^ 51))
  by_sign P p q = elim (less_or_not h (2 ^ 51)) [
    | inl l ↦ subst P (sym (below l)) (q (2 ^ 51 - suc h) (omega arith))
    | inr g ↦ subst P (sym (above g)) (p (h - 2 ^ 51) (omega arith))
  ]

  pub difference_fits : SFits w64 (to_z w64 h -ℤ pos (2 ^ 51))
  difference_fits =
      subst (SFits w64) (sym number)
      (by_sign (SFits w64) (λ n l. record { sfits = lt_of_lt_of_le l (lit≤ tt) }) (λ n l. record { sfits = lt_of_lt_of_le l (lit≤ tt) }))

  as_number : to_z w64 (of_z w64 (to_z w64 h -ℤ pos (2 ^ 51))) ≡ sub_ℕ h (2 ^ 51)
  as_number = to_z-of_z difference_fits ∙ number

  -- a float can be that number, so the cast is exact
  pub exact_cast : T (in_float binary64 (to_z w64 (of_z w64 (to_z w64 h -ℤ pos (2 ^ 51)))))
  exact_cast =
      subst (λ (z : ℤ). T (in_float binary64 z)) (sym as_number)
      (unfold in_float in by_sign (λ (z : ℤ). T (in_float binary64 z)) (λ n l. le→leb n (2 ^ 53) (le_of_lt l)) (λ n l. lt→ltb n (2 ^ 53) l))

  pub unbiased_above : 2 ^ 51 < h → HasValue (of_int binary64 (to_z w64 (of_z w64 (to_z w64 h -ℤ pos (2 ^ 51))))) false (h - 2 ^ 51) 1
  unbiased_above l =
      subst (λ (z : ℤ). HasValue (of_int binary64 z) false (h - 2 ^ 51) 1) (sym (as_number ∙ above (le_of_lt l)))
      (unfold of_int in round_whole binary64 false (h - 2 ^ 51) (omega arith))

  pub unbiased_below : h < 2 ^ 51 → HasValue (of_int binary64 (to_z w64 (of_z w64 (to_z w64 h -ℤ pos (2 ^ 51))))) true (2 ^ 51 - h) 1
  unbiased_below l =
      subst (λ (z : ℤ). HasValue (of_int binary64 z) true (2 ^ 51 - h) 1) (sym (as_number ∙ below l))
      (subst (λ (n : ℕ). HasValue (of_int binary64 (negsuc (2 ^ 51 - suc h))) true n 1) (one_more h l)
      (unfold of_int in round_whole binary64 true (suc (2 ^ 51 - suc h)) (omega arith)))
    where
      one_more : (h : ℕ) → h < 2 ^ 51 → suc (2 ^ 51 - suc h) ≡ 2 ^ 51 - h
      one_more h l = omega arith

-- ---- `converted`

plain : (s : Bool) → unlike false s ≡ s
plain true = refl
plain false = refl

-- the low word as a float, its last eleven bits sticky
pub low_sticky : (l j : ℕ) → Marked (l / 2048) (l % 2048) j → Sticky (2 ^ 11) l j
low_sticky l j m = sticky_cut 2048 l (l / 2048) (l % 2048) j (div-add-mod' l 2048) (omega arith) m.0 m.1

pub low_short : (l j : ℕ) → l < 2 ^ 64 → Marked (l / 2048) (l % 2048) j → j < 2 ^ 53
low_short l j h m = elim (eq-zero-or-pos (l % 2048)) [
  | inl e ↦ let f = m.0 e in omega (arith, f, h)
  | inr p ↦ let f = m.1 p in omega (arith, f, h)
]

low_value : (j : ℕ) → j < 2 ^ 53 → HasValue (of_int binary64 (pos j)) false j 1
low_value j l = unfold of_int in round_whole binary64 false j (le_of_lt l)

module _ (s : Bool) (h l j e : ℕ) (u p q : Float) (h-lt : h < 2 ^ 53) (h-ge : 4 ≤ h) (j-lt : j < 2 ^ 53) (t : Sticky (2 ^ 11) l j) (e-ge : 1200 ≤ e)
    (e-lt : e < 3000)
    (pv : HasValue p s (2 ^ (e - 1063 + 51)) (2 ^ 1074)) (qv : HasValue q s (2 ^ (e - 1116 + 51)) (2 ^ 1074)) where
  -- both products are exact
  in_range_lem : (n i : ℕ) → n < 2 ^ 53 → i < 2000 → n * 2 ^ i < 2 ^ 2098
  in_range_lem n i a b = lt_of_lt_of_le (shl_lt 53 i a) (pow_mono (room i b))
    where
      room : (i : ℕ) → i < 2000 → 53 + i ≤ 2098
      room i b = omega arith

  high_value : (r : Bool) → HasValue u r h 1 → HasValue (mul binary64 u p) (unlike r s) (h * 2 ^ 53 * 2 ^ (e - 1065)) (2 ^ 1074)
  high_value r v =
      subst (λ (n : ℕ). HasValue (mul binary64 u p) (unlike r s) n (2 ^ 1074))
      (ap (λ (i : ℕ). h * 2 ^ i) (sums e e-ge) ∙ ap (λ (n : ℕ). h * n) (pow-add 2 53 (e - 1065)) ∙ sym (mul_assoc h (2 ^ 53) (2 ^ (e - 1065))))
      (power_times binary64 u p r s h (e - 1063 + 51) h-lt (in_range_lem h (e - 1063 + 51) h-lt (small e e-lt)) v pv)
    where
      sums : (e : ℕ) → 1200 ≤ e → e - 1063 + 51 ≡ 53 + (e - 1065)
      sums e g = omega arith

      small : (e : ℕ) → e < 3000 → e - 1063 + 51 < 2000
      small e g = omega arith

  low_product : HasValue (mul binary64 (of_int binary64 (pos j)) q) s (j * 2 ^ (e - 1065)) (2 ^ 1074)
  low_product =
      subst (λ (i : ℕ). HasValue (mul binary64 (of_int binary64 (pos j)) q) s (j * 2 ^ i) (2 ^ 1074)) (sums e e-ge)
      (subst (λ (r : Bool). HasValue (mul binary64 (of_int binary64 (pos j)) q) r (j * 2 ^ (e - 1116 + 51)) (2 ^ 1074)) (plain s)
      (power_times binary64 (of_int binary64 (pos j)) q false s j (e - 1116 + 51) j-lt (in_range_lem j (e - 1116 + 51) j-lt (small e e-lt))
      (low_value j j-lt) qv))
    where
      sums : (e : ℕ) → 1200 ≤ e → e - 1116 + 51 ≡ e - 1065
      sums e g = omega arith

      small : (e : ℕ) → e < 3000 → e - 1116 + 51 < 2000
      small e g = omega arith

  -- the sum of the two is rounded, and does not see what the sticky bit stands for
  seen : (r : Bool) (x y : ℕ) → Sticky (2 ^ 11) x y → 2 ^ 54 ≤ y → round binary64 r (y * 2 ^ (e - 1065)) (2 ^ 1074) ≡ round binary64 r (x * 2 ^ e) (2 ^ 2150)
  seen r x y a b =
      sym (round_sticky binary64 r (2 ^ 11) x y (e - 1065) 1074 (pow_pos 11) a b (room e)) ∙ round_move binary64 r x (e - 1065) 1085 e 2150 (sums e e-ge)
    where
      room : (e : ℕ) → 1074 ≤ e - 1065 + 1074 + 2
      room e = omega arith

      sums : (e : ℕ) → 1200 ≤ e → e - 1065 + 2150 ≡ e + 1085
      sums e g = omega arith

  even : h * 2 ^ 53 % 2 ≡ 0
  even = omega arith

  placed : h * 2 ^ 53 * 2 ^ 11 ≡ h * 2 ^ 64
  placed = mul_assoc h (2 ^ 53) (2 ^ 11)

  pub converted_above : HasValue u false h 1
      → add binary64 (mul binary64 u p) (mul binary64 (of_int binary64 (pos j)) q) ≡ round binary64 s ((h * 2 ^ 64 + l) * 2 ^ e) (2 ^ 2150)
  converted_above v =
      add_values binary64 (mul binary64 u p) (mul binary64 (of_int binary64 (pos j)) q) s (h * 2 ^ 53 * 2 ^ (e - 1065)) s (j * 2 ^ (e - 1065))
      (2 ^ 1074) (pow_pos 1074)
      (subst (λ (r : Bool). HasValue (mul binary64 u p) r (h * 2 ^ 53 * 2 ^ (e - 1065)) (2 ^ 1074)) (plain s) (high_value false v)) low_product
      ∙ like_times binary64 s (h * 2 ^ 53) j (2 ^ (e - 1065)) (2 ^ 1074)
      ∙ seen s (h * 2 ^ 64 + l) (h * 2 ^ 53 + j)
      (subst (λ (n : ℕ). Sticky (2 ^ 11) (n + l) (h * 2 ^ 53 + j)) placed (sticky_add (2 ^ 11) (h * 2 ^ 53) l j even t)) (omega arith)

  pub converted_below : HasValue u true h 1
      → add binary64 (mul binary64 u p) (mul binary64 (of_int binary64 (pos j)) q) ≡ round binary64 (not s) ((h * 2 ^ 64 - l) * 2 ^ e) (2 ^ 2150)
  converted_below v =
      add_values binary64 (mul binary64 u p) (mul binary64 (of_int binary64 (pos j)) q) (not s) (h * 2 ^ 53 * 2 ^ (e - 1065)) s (j * 2 ^ (e - 1065))
      (2 ^ 1074) (pow_pos 1074)
      (subst (λ (r : Bool). HasValue (mul binary64 u p) r (h * 2 ^ 53 * 2 ^ (e - 1065)) (2 ^ 1074)) (turned s) (high_value true v)) low_product
      ∙ ap (λ (r : Bool). Ieee.sum binary64 (not s) (h * 2 ^ 53 * 2 ^ (e - 1065)) r (j * 2 ^ (e - 1065)) (2 ^ 1074)) (sym (not_not s))
      ∙ more_times binary64 (not s) (h * 2 ^ 53) j (2 ^ (e - 1065)) (2 ^ 1074) (pow_pos (e - 1065)) (omega arith)
      ∙ seen (not s) (h * 2 ^ 64 - l) (h * 2 ^ 53 - j)
      (subst (λ (n : ℕ). Sticky (2 ^ 11) (n - l) (h * 2 ^ 53 - j)) placed (sticky_from (2 ^ 11) (h * 2 ^ 53) l j even (omega arith) t)) (omega arith)
    where
      turned : (s : Bool) → unlike true s ≡ not s
      turned true = refl
      turned false = refl

-- a float can be the low word
pub fits_float : (j : ℕ) → j < 2 ^ 53 → T (in_float binary64 (pos j))
unfolding in_float
fits_float j l = le→leb j (2 ^ 53) (le_of_lt l)

-- what the bias adds, taken off
pub off_above : (h l : ℕ) → 2 ^ 51 + 4 ≤ h → (h - 2 ^ 51) * 2 ^ 64 + l ≡ h * 2 ^ 64 + l - 2 ^ 115
off_above h l g = omega arith

pub off_below : (h l : ℕ) → h + 4 ≤ 2 ^ 51 → (2 ^ 51 - h) * 2 ^ 64 - l ≡ 2 ^ 115 - (h * 2 ^ 64 + l)
off_below h l g = omega arith
