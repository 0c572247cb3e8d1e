-- A float's magnitude with its leading digit at bit 62, and where the product and the addend are placed. Assumes nothing.
use mathlib.Core.Path.{◌≡◌, sym, ap, ap₂, ◌∙◌, subst}
use mathlib.Core.Logic.{inl, inr}
use Prim.Native.Nat.{ℕ, ◌+◌, ◌-◌, ◌*◌, ◌/◌, ◌%◌, ◌^◌, ◌≤◌, ◌<◌}
use native.Mathlib.Nat.{le_trans, lt_of_lt_of_le, mul_assoc, mul-pos, mul-mod_left, mod-eq_of_lt, mod-lt, mul-le-mul, mul-le-mul_right, mul-lt-mul_of_pos_right}
use native.Mathlib.Nat.{eq-zero-or-pos, le-add_right, mul-mul-mul_comm}
use native.Mathlib.Omega.{arith}
use mathlib.Core.Bool.{Bool}
use lib.Dec.{lit≤}
use lib.Pow.{pow-add, pow_pos, pow_mono, shl_lt}
use lib.Count.{count_leading_zeros}
use lib.Ieee.{binary64, sum}
use Rattle.law_rounding.proofs.Numbers.{less_or_not}
use Rattle.law_rounding.proofs.Sums.{sum_same}
use Rattle.law_rounding.proofs.Values.{weight_zero, weight_more}
use Rattle.fused_general.specs.Bits.{field, magnitude, Unpacked}
use Rattle.fused_align.specs.Placed.{Placed}
use Rattle.fused_words.proofs.Carry.{mul_lt_pow}
use Rattle.fused_words.proofs.Leading.{zeros_lt, normalized}

-- ---- no leading digit: the digits are shifted up

module _ (l : ℕ) (l-pos : 0 < l) (l_lt : l < 2 ^ 52) where
  in_word : l < 2 ^ 64
  in_word = lt_of_lt_of_le l_lt (lit≤ tt)

  pub zeros_under : count_leading_zeros 64 l < 64
  zeros_under = zeros_lt l l-pos in_word

  pub zeros_over : 2 ≤ count_leading_zeros 64 l
  zeros_over = elim (less_or_not (count_leading_zeros 64 l) 2) [
    | inr g ↦ g
    | inl h ↦
        let a : 2 ^ 63 ≤ l * 2 ^ count_leading_zeros 64 l = (normalized l l-pos in_word).0 in
        let b : l * 2 ^ count_leading_zeros 64 l < 2 ^ (52 + count_leading_zeros 64 l) = shl_lt 52 (count_leading_zeros 64 l) l_lt in
        let c : 2 ^ (52 + count_leading_zeros 64 l) ≤ 2 ^ 54 = pow_mono (small (count_leading_zeros 64 l) h) in
        absurd (apart (l * 2 ^ count_leading_zeros 64 l) (2 ^ (52 + count_leading_zeros 64 l)) a b c)
  ]
    where
      small : (z : ℕ) → z < 2 → 52 + z ≤ 54
      small z h = omega arith

      apart : (p q : ℕ) → 2 ^ 63 ≤ p → p < q → q ≤ 2 ^ 54 → ⊥
      apart p q a b c = omega arith

  twice : l * 2 ^ count_leading_zeros 64 l ≡ l * 2 ^ (count_leading_zeros 64 l - 1) * 2
  twice =
      ap (λ (k : ℕ). l * 2 ^ k) (pred (count_leading_zeros 64 l) zeros_over)
      ∙ ap (λ (k : ℕ). l * k) (pow-add 2 (count_leading_zeros 64 l - 1) 1)
      ∙ sym (mul_assoc l (2 ^ (count_leading_zeros 64 l - 1)) 2)
    where
      pred : (z : ℕ) → 2 ≤ z → z ≡ z - 1 + 1
      pred z h = omega arith

  half : (2 ^ 62 ≤ l * 2 ^ (count_leading_zeros 64 l - 1)) × (l * 2 ^ (count_leading_zeros 64 l - 1) < 2 ^ 63)
  half = let n = normalized l l-pos in_word in (low (twice) n.0, high (twice) n.1)
    where
      low : {p q : ℕ} → p ≡ q * 2 → 2 ^ 63 ≤ p → 2 ^ 62 ≤ q
      low {p} {q} e h = omega arith

      high : {p q : ℕ} → p ≡ q * 2 → p < 2 ^ 64 → q < 2 ^ 63
      high {p} {q} e h = omega arith

  whole : l * 2 ^ (count_leading_zeros 64 l - 1) % 2 ^ 64 ≡ l * 2 ^ (count_leading_zeros 64 l - 1)
  whole = mod-eq_of_lt (lt_of_lt_of_le half.1 (lit≤ tt))

  subnormal : Unpacked l (l * 2 ^ (count_leading_zeros 64 l - 1) % 2 ^ 64) (63 - count_leading_zeros 64 l)
  subnormal =
      let z = count_leading_zeros 64 l in
      subst (λ (d : ℕ). Unpacked l d (63 - z)) (sym whole) record {
        is =
            mul_assoc l (2 ^ (z - 1)) (2 ^ (63 - z))
            ∙ ap (λ (k : ℕ). l * k) (sym (pow-add 2 (z - 1) (63 - z)) ∙ ap (λ (k : ℕ). 2 ^ k) (sums z zeros_over zeros_under));
        least = half.0;
        most = half.1;
        even = even z zeros_over;
        small = small z;
      }
    where
      sums : (z : ℕ) → 2 ≤ z → z < 64 → z - 1 + (63 - z) ≡ 62
      sums z a b = omega arith

      pred : (z : ℕ) → 2 ≤ z → z - 1 ≡ z - 2 + 1
      pred z h = omega arith

      even : (z : ℕ) → 2 ≤ z → l * 2 ^ (z - 1) % 2 ≡ 0
      even z h =
          ap (λ (k : ℕ). k % 2) (ap (λ (k : ℕ). l * 2 ^ k) (pred z h) ∙ ap (λ (k : ℕ). l * k) (pow-add 2 (z - 2) 1) ∙ sym (mul_assoc l (2 ^ (z - 2)) 2))
          ∙ mul-mod_left (l * 2 ^ (z - 2)) 2

      small : (z : ℕ) → 63 - z < 2100
      small z = omega arith

-- ---- a leading digit before the others

normal : (f l : ℕ) → 0 < f → f < 2047 → l < 2 ^ 52 → Unpacked ((2 ^ 52 + l) * 2 ^ (f - 1)) ((2 ^ 52 + l) * 1024) (f + 51)
normal f l p q h = record {
  is =
      mul_assoc (2 ^ 52 + l) (2 ^ 10) (2 ^ (f + 51))
      ∙ ap (λ (k : ℕ). (2 ^ 52 + l) * k) (sym (pow-add 2 10 (f + 51)) ∙ ap (λ (k : ℕ). 2 ^ k) (sums f p) ∙ pow-add 2 (f - 1) 62)
      ∙ sym (mul_assoc (2 ^ 52 + l) (2 ^ (f - 1)) (2 ^ 62));
  least = omega arith;
  most = omega arith;
  even = omega arith;
  small = omega arith;
}
  where
    sums : (f : ℕ) → 0 < f → 10 + (f + 51) ≡ f - 1 + 62
    sums f h = omega arith

-- the digits below the leading one, where there is none
pub low_pos : (b : ℕ) → 0 < b % 2 ^ 63 → b % 2 ^ 63 / 2 ^ 52 ≡ 0 → 0 < b % 2 ^ 52
low_pos b h e = omega arith

pub low_lt : (b : ℕ) → b % 2 ^ 52 < 2 ^ 52
low_lt b = mod-lt b (pow_pos 52)

pub unpacked_low : (b : ℕ) → 0 < b % 2 ^ 63 → field b ≡ 0
    → Unpacked (magnitude b) (b % 2 ^ 52 * 2 ^ (count_leading_zeros 64 (b % 2 ^ 52) - 1) % 2 ^ 64) (63 - count_leading_zeros 64 (b % 2 ^ 52))
unpacked_low b h e =
    subst (λ (m : ℕ). Unpacked m (b % 2 ^ 52 * 2 ^ (count_leading_zeros 64 (b % 2 ^ 52) - 1) % 2 ^ 64) (63 - count_leading_zeros 64 (b % 2 ^ 52)))
    (weight_zero binary64 (field b) (b % 2 ^ 52) e) (subnormal (b % 2 ^ 52) (low_pos b h e) (low_lt b))

pub unpacked_high : (b : ℕ) → field b < 2047 → 0 < field b → Unpacked (magnitude b) ((2 ^ 52 + b % 2 ^ 52) * 1024) (field b + 51)
unpacked_high b h p =
    subst (λ (m : ℕ). Unpacked m ((2 ^ 52 + b % 2 ^ 52) * 1024) (field b + 51)) (weight_more binary64 (field b) (b % 2 ^ 52) p)
    (normal (field b) (b % 2 ^ 52) p h (low_lt b))

-- ---- where they are placed

pub product_placed : {m n a b e f : ℕ} (y : ℕ) → y ≡ a * b → Unpacked m a e → Unpacked n b f → Placed y
product_placed {a = a} {b = b} y e u v =
    subst Placed (sym e) (
      mul-le-mul u.least v.least,
      mul_lt_pow 63 63 u.most v.most,
      ap (λ (k : ℕ). k % 4) (fours a b u.even v.even) ∙ mul-mod_left (a / 2 * (b / 2)) 4,
    )
  where
    halves : (a : ℕ) → a % 2 ≡ 0 → a ≡ a / 2 * 2
    halves a h = omega arith

    fours : (a b : ℕ) → a % 2 ≡ 0 → b % 2 ≡ 0 → a * b ≡ a / 2 * (b / 2) * 4
    fours a b r u = ap₂ (λ (x y : ℕ). x * y) (halves a r) (halves b u) ∙ mul-mul-mul_comm (a / 2) 2 (b / 2) 2

-- the addend's word as the high one
lifted : (d : ℕ) → d % 2 ≡ 0 → d / 2 * 2 ^ 64 + 0 ≡ d * 2 ^ 63
lifted d e = omega arith

pub addend_placed : {m d e : ℕ} → Unpacked m d e → Placed (d / 2 * 2 ^ 64 + 0)
addend_placed {d = d} u =
    subst Placed (sym (lifted d u.even)) (
      le_trans (lit≤ {m = 2 ^ 124} {n = 2 ^ 62 * 2 ^ 63} tt) (mul-le-mul_right (2 ^ 63) u.least),
      mul-lt-mul_of_pos_right u.most (pow_pos 63),
      ap (λ (k : ℕ). k % 4) (sym (mul_assoc d (2 ^ 61) 4)) ∙ mul-mod_left (d * 2 ^ 61) 4,
    )

-- ---- the sum of the unpacked numbers is the sum of the magnitudes

pub magnitudes : (s t : Bool) {m₁ m₂ m₃ d₁ e₁ d₂ e₂ d₃ e₃ : ℕ} (y : ℕ) → y ≡ d₁ * d₂ → Unpacked m₁ d₁ e₁ → Unpacked m₂ d₂ e₂ → Unpacked m₃ d₃ e₃
    → sum binary64 s (y * 2 ^ (e₁ + e₂)) t ((d₃ / 2 * 2 ^ 64 + 0) * 2 ^ (e₃ + 1073)) (2 ^ 2272) ≡ sum binary64 s (m₁ * m₂) t (m₃ * 2 ^ 1074) (2 ^ 2148)
magnitudes s t {m₁} {m₂} {m₃} {d₁} {e₁} {d₂} {e₂} {d₃} {e₃} y h u v w =
    sum_same binary64 s (y * 2 ^ (e₁ + e₂)) t ((d₃ / 2 * 2 ^ 64 + 0) * 2 ^ (e₃ + 1073)) (2 ^ 2272) (m₁ * m₂) (m₃ * 2 ^ 1074) (2 ^ 2148)
    (pow_pos 2272) (pow_pos 2148) first second
  where
    first : y * 2 ^ (e₁ + e₂) * 2 ^ 2148 ≡ m₁ * m₂ * 2 ^ 2272
    first =
        ap (λ (k : ℕ). k * 2 ^ 2148)
        (ap₂ (λ (a b : ℕ). a * b) h (pow-add 2 e₁ e₂)
        ∙ mul-mul-mul_comm d₁ d₂ (2 ^ e₁) (2 ^ e₂)
        ∙ ap₂ (λ (a b : ℕ). a * b) u.is v.is
        ∙ mul-mul-mul_comm m₁ (2 ^ 62) m₂ (2 ^ 62))
        ∙ mul_assoc (m₁ * m₂) (2 ^ 62 * 2 ^ 62) (2 ^ 2148)

    second : (d₃ / 2 * 2 ^ 64 + 0) * 2 ^ (e₃ + 1073) * 2 ^ 2148 ≡ m₃ * 2 ^ 1074 * 2 ^ 2272
    second =
        ap (λ (k : ℕ). k * 2 ^ 2148)
        (ap₂ (λ (a b : ℕ). a * b) (lifted d₃ w.even) (pow-add 2 e₃ 1073)
        ∙ mul-mul-mul_comm d₃ (2 ^ 63) (2 ^ e₃) (2 ^ 1073)
        ∙ ap (λ (k : ℕ). k * (2 ^ 63 * 2 ^ 1073)) w.is)
        ∙ mul_assoc (m₃ * 2 ^ 62) (2 ^ 63 * 2 ^ 1073) (2 ^ 2148)
        ∙ mul_assoc m₃ (2 ^ 62) (2 ^ 63 * 2 ^ 1073 * 2 ^ 2148)
        ∙ sym (mul_assoc m₃ (2 ^ 1074) (2 ^ 2272))

-- ---- zero, and not

pub magnitude_zero : (b : ℕ) → b % 2 ^ 63 ≡ 0 → magnitude b ≡ 0
magnitude_zero b h = sym (weight_zero binary64 (field b) (b % 2 ^ 52) (none b h)) ∙ low b h
  where
    none : (b : ℕ) → b % 2 ^ 63 ≡ 0 → b % 2 ^ 63 / 2 ^ 52 ≡ 0
    none b h = omega arith

    low : (b : ℕ) → b % 2 ^ 63 ≡ 0 → b % 2 ^ 52 ≡ 0
    low b h = omega arith

pub magnitude_pos : (b : ℕ) → 0 < b % 2 ^ 63 → 0 < magnitude b
magnitude_pos b h = elim (eq-zero-or-pos (field b)) [
  | inl e ↦ subst (λ (m : ℕ). 0 < m) (weight_zero binary64 (field b) (b % 2 ^ 52) e) (low_pos b h e)
  | inr p ↦
      subst (λ (m : ℕ). 0 < m) (weight_more binary64 (field b) (b % 2 ^ 52) p)
      (mul-pos (lt_of_lt_of_le (pow_pos 52) (le-add_right (2 ^ 52) (b % 2 ^ 52))) (pow_pos (field b - 1)))
]
