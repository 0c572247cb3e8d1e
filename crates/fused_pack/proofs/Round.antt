-- From leading bits to a rounded fraction: what the steps of the code come to. Assumes nothing.
use mathlib.Core.Path.{◌≡◌, refl, sym, ap, ap₂, ◌∙◌, subst}
use mathlib.Core.Logic.{inl, inr}
use Prim.Native.Nat.{ℕ, suc, ◌+◌, ◌-◌, ◌*◌, ◌/◌, ◌%◌, ◌^◌, ◌≤◌, ◌<◌, compare}
use native.Mathlib.Nat.{le_of_eq, le_trans, mul_assoc, mul_comm, mul_right_comm, mul-pos, add-mul, mod-lt, mod-eq_of_lt, div-add-mod', eq-zero-or-pos}
use native.Mathlib.Nat.{lt_of_mul-lt-mul_right, add-zero, zero-mul, le_antisymm, le-add_right}
use native.Mathlib.Omega.{arith}
use mathlib.Core.Bool.{Bool}
use lib.Dec.{lit≤}
use lib.Arith.{digits_lt}
use lib.Pow.{pow-add, pow_pos, shr_lt, shr-shr}
use lib.Ieee.{Float, binary64, round, nearest}
use lib.Ieee.Fits.{nearest-le}
use lib.Ieee.Nearest.{closest}
use Rattle.law_rounding.specs.Sticky.{Sticky}
use Rattle.law_rounding.proofs.Numbers.{less_or_not, compare_lt, compare_gt, compare_eq}
use Rattle.law_rounding.proofs.Sticky.{sticky_cut, sticky_again}
use Rattle.law_rounding.proofs.Word.{round_word}
use Rattle.law_rounding.proofs.Values.{round_shift}
use Rattle.fused_words.proofs.Shift.{Marked, moved}
use Rattle.fused_pack.specs.Rounds.{Patterned}

-- half the unit, less one, and one more where the whole part is odd: the sum reaches the next unit just where the whole part is to move up
pub nearest_is : (w : ℕ) → w / 2048 + (w % 2048 + 1023 + w / 2048 % 2) / 2048 ≡ closest w 2048
nearest_is w = elim (less_or_not (w % 2048 * 2) 2048) [
  | inl l ↦ below w l ∙ ap (nearest (w / 2048)) (sym (compare_lt (w % 2048 * 2) 2048 l))
  | inr g ↦ elim (less_or_not 2048 (w % 2048 * 2)) [
    | inl l ↦ above w l ∙ ap (nearest (w / 2048)) (sym (compare_gt (w % 2048 * 2) 2048 l))
    | inr h ↦ let e = le_antisymm h g in tie w e ∙ ap (nearest (w / 2048)) (sym (compare_eq (w % 2048 * 2) 2048 e))
  ]
]
  where
    below : (w : ℕ) → w % 2048 * 2 < 2048 → w / 2048 + (w % 2048 + 1023 + w / 2048 % 2) / 2048 ≡ w / 2048
    below w l = omega arith

    above : (w : ℕ) → 2048 < w % 2048 * 2 → w / 2048 + (w % 2048 + 1023 + w / 2048 % 2) / 2048 ≡ suc (w / 2048)
    above w l = omega arith

    tie : (w : ℕ) → w % 2048 * 2 ≡ 2048 → w / 2048 + (w % 2048 + 1023 + w / 2048 % 2) / 2048 ≡ w / 2048 + w / 2048 % 2
    tie w l = omega arith

moved_power : (v a b : ℕ) → 2 ^ a * v * 2 ^ b ≡ v * 2 ^ (a + b)
moved_power v a b = ap (λ (n : ℕ). n * 2 ^ b) (mul_comm (2 ^ a) v) ∙ mul_assoc v (2 ^ a) (2 ^ b) ∙ ap (λ (n : ℕ). v * n) (sym (pow-add 2 a b))

-- ---- `rounded`: below the smallest normal value the word is cut to the smallest value's place

pub rounded_low : (s : Bool) (w g y v x : ℕ) → g < 1251 → y < 2 ^ 64 → Sticky (2 ^ (1251 - g)) w y → 0 < v → Sticky v x w
    → Patterned s y 0 ≡ round binary64 s (x * 2 ^ g) (v * 2 ^ 2336)
rounded_low s w g y v x l u t p k =
    sym
    (round_word binary64 s (2 ^ (1251 - g) * v) x y 1251 2336 0 11 (mul-pos (pow_pos (1251 - g)) p) (lit≤ tt) refl
    (sticky_again v (2 ^ (1251 - g)) x w y p (pow_pos (1251 - g)) k t) u (inl refl))
    ∙ ap (round binary64 s (x * 2 ^ 1251)) (moved_power v (1251 - g) 2336)
    ∙ round_shift binary64 s x v 1251 (1251 - g + 2336) g 2336 p (sums g l)
  where
    sums : (g : ℕ) → g < 1251 → 1251 + 2336 ≡ g + (1251 - g + 2336)
    sums g l = omega arith

pub rounded_high : (s : Bool) (w g v x : ℕ) → 1251 ≤ g → 2 ^ 63 ≤ w → w < 2 ^ 64 → 0 < v → Sticky v x w
    → Patterned s w (g - 1251) ≡ round binary64 s (x * 2 ^ g) (v * 2 ^ 2336)
rounded_high s w g v x l h u p k = sym (round_word binary64 s v x w g 2336 (g - 1251) 11 p (lit≤ tt) (sums g l) k u (inr h))
  where
    sums : (g : ℕ) → 1251 ≤ g → g + 1074 + 11 ≡ 2336 + (g - 1251)
    sums g l = omega arith

-- ---- `Term::leading`: the word that starts at the leading bit

module _ (h l z : ℕ) (z-lt : z < 64) (h-lt : h * 2 ^ z < 2 ^ 64) (l_lt : l < 2 ^ 64) where
  shifted_in : l / 2 / 2 ^ (63 - z) ≡ l / 2 ^ (64 - z)
  shifted_in = shr-shr l 1 (63 - z) ∙ ap (λ (a : ℕ). l / 2 ^ a) (one_more z z-lt)
    where
      one_more : (z : ℕ) → z < 64 → 1 + (63 - z) ≡ 64 - z
      one_more z h = omega arith

  word_is : h * 2 ^ z % 2 ^ 64 + l / 2 / 2 ^ (63 - z) ≡ h * 2 ^ z + l / 2 ^ (64 - z)
  word_is = ap₂ (λ (a b : ℕ). a + b) (mod-eq_of_lt h-lt) shifted_in

  join : 2 ^ (64 - z) * 2 ^ z ≡ 2 ^ 64
  join = sym (pow-add 2 (64 - z) z) ∙ ap (λ (a : ℕ). 2 ^ a) (sums z z-lt)
    where
      sums : (z : ℕ) → z < 64 → 64 - z + z ≡ 64
      sums z h = omega arith

  pub word_lt : h * 2 ^ z % 2 ^ 64 + l / 2 / 2 ^ (63 - z) < 2 ^ 64
  word_lt =
      subst (λ (a : ℕ). a < 2 ^ 64) (sym word_is)
      (subst (λ (a : ℕ). h * 2 ^ z + l / 2 ^ (64 - z) < a) join
      (digits_lt (lt_of_mul-lt-mul_right (2 ^ z) (subst (λ (a : ℕ). h * 2 ^ z < a) (sym join) h-lt))
      (shr_lt z (64 - z) (subst (λ (a : ℕ). l < a) (sym join ∙ mul_comm (2 ^ (64 - z)) (2 ^ z) ∙ sym (pow-add 2 z (64 - z))) l_lt))))

  -- what the shift drops is what it shifts out on the left
  dropped : l * 2 ^ z % 2 ^ 64 ≡ l % 2 ^ (64 - z) * 2 ^ z
  dropped = subst (λ (a : ℕ). l * 2 ^ a % 2 ^ 64 ≡ l % 2 ^ (64 - z) * 2 ^ a) (twice z z-lt) (moved l l (64 - z) (omega arith) l_lt)
    where
      twice : (z : ℕ) → z < 64 → 64 - (64 - z) ≡ z
      twice z h = omega arith

  cut : (h * 2 ^ z + l / 2 ^ (64 - z)) * 2 ^ (64 - z) + l % 2 ^ (64 - z) ≡ h * 2 ^ 64 + l
  cut =
      let u = 2 ^ (64 - z) in
      let a : (h * 2 ^ z + l / u) * u ≡ h * 2 ^ z * u + l / u * u = add-mul (h * 2 ^ z) (l / u) u in
      let b : h * 2 ^ z * u ≡ h * 2 ^ 64 = mul_assoc h (2 ^ z) u ∙ ap (λ (x : ℕ). h * x) (mul_comm (2 ^ z) u ∙ join) in
      let c : l / u * u + l % u ≡ l = div-add-mod' l u in
      omega (arith, a, b, c)

  pub leading_sticky : (y : ℕ) → Marked (h * 2 ^ z % 2 ^ 64 + l / 2 / 2 ^ (63 - z)) (l * 2 ^ z % 2 ^ 64) y → Sticky (2 ^ (64 - z)) (h * 2 ^ 64 + l) y
  leading_sticky y m =
      sticky_cut (2 ^ (64 - z)) (h * 2 ^ 64 + l) (h * 2 ^ z + l / 2 ^ (64 - z)) (l % 2 ^ (64 - z)) y cut (mod-lt l (pow_pos (64 - z)))
      (λ e. m.0 (dropped ∙ ap (λ (a : ℕ). a * 2 ^ z) e ∙ zero-mul (2 ^ z)) ∙ word_is)
      (λ p. m.1 (subst (λ (a : ℕ). 0 < a) (sym dropped) (mul-pos p (pow_pos z))) ∙ ap (λ (a : ℕ). a / 2 * 2 + 1) word_is)

  pub leading_ge : (y : ℕ) → 2 ^ 63 ≤ h * 2 ^ z → Marked (h * 2 ^ z % 2 ^ 64 + l / 2 / 2 ^ (63 - z)) (l * 2 ^ z % 2 ^ 64) y → 2 ^ 63 ≤ y
  leading_ge y g m = elim (eq-zero-or-pos (l * 2 ^ z % 2 ^ 64)) [
    | inl e ↦ le_trans g (le_trans (le-add_right (h * 2 ^ z) (l / 2 ^ (64 - z))) (le_of_eq (sym (m.0 e ∙ word_is))))
    | inr p ↦
        le_trans (even (h * 2 ^ z + l / 2 ^ (64 - z)) (le_trans g (le-add_right (h * 2 ^ z) (l / 2 ^ (64 - z)))))
        (le_of_eq (sym (m.1 p ∙ ap (λ (a : ℕ). a / 2 * 2 + 1) word_is)))
  ]
    where
      even : (a : ℕ) → 2 ^ 63 ≤ a → 2 ^ 63 ≤ a / 2 * 2 + 1
      even a k = omega arith

pub leading_round : (s : Bool) (e z v x : ℕ) → z < 64 → 0 < v
    → round binary64 s (x * 2 ^ (e + 64 - z)) (2 ^ (64 - z) * v * 2 ^ 2336) ≡ round binary64 s (x * 2 ^ e) (v * 2 ^ 2336)
leading_round s e z v x l p =
    ap (round binary64 s (x * 2 ^ (e + 64 - z))) (moved_power v (64 - z) 2336) ∙ round_shift binary64 s x v (e + 64 - z) (64 - z + 2336) e 2336 p (sums e z l)
  where
    sums : (e z : ℕ) → z < 64 → e + 64 - z + 2336 ≡ e + (64 - z + 2336)
    sums e z h = omega arith

-- the digits kept of a word, with a carry
pub nearest_lt : (w : ℕ) → w < 2 ^ 64 → closest w (2 ^ 11) ≤ 2 ^ 53
nearest_lt w h = le_trans (nearest-le (w / 2 ^ 11) (compare (w % 2 ^ 11 * 2) (2 ^ 11))) (shr_lt 53 11 h)

-- ---- `Term::rounded`

pub one_word : (s : Bool) (l e : ℕ) (r : Float) → ((v x : ℕ) → 0 < v → Sticky v x (l * 2 ^ 64 + 0) → r ≡ round binary64 s (x * 2 ^ e) (v * 2 ^ 2336))
    → (v x : ℕ) → 0 < v → x ≡ l * v → r ≡ round binary64 s (x * 2 ^ e) (v * 2 ^ 2272)
one_word s l e r all v x p h =
    all v (x * 2 ^ 64) p (inl (ap (λ (a : ℕ). a * 2 ^ 64) h ∙ mul_right_comm l v (2 ^ 64) ∙ ap (λ (a : ℕ). a * v) (sym (add-zero (l * 2 ^ 64)))))
    ∙ ap (λ (a : ℕ). round binary64 s a (v * 2 ^ 2336)) (mul_assoc x (2 ^ 64) (2 ^ e) ∙ ap (λ (a : ℕ). x * a) (sym (pow-add 2 64 e)))
    ∙ round_shift binary64 s x v (64 + e) 2336 e 2272 p (sums e)
  where
    sums : (e : ℕ) → 64 + e + 2272 ≡ e + 2336
    sums e = omega arith

pub two_words : (s : Bool) (e v x : ℕ) → 0 < v → round binary64 s (x * 2 ^ (e + 64)) (v * 2 ^ 2336) ≡ round binary64 s (x * 2 ^ e) (v * 2 ^ 2272)
two_words s e v x p = round_shift binary64 s x v (e + 64) 2336 e 2272 p (sums e)
  where
    sums : (e : ℕ) → e + 64 + 2272 ≡ e + 2336
    sums e = omega arith
