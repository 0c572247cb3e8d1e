-- How long the biased sum and its parts are. Assumes nothing.
use Rattle.std.proofs.Common.{◌≡◌, ℕ, ◌+◌, ◌-◌, ◌*◌, ◌%◌, ◌^◌, ◌≤◌, ◌<◌, Bool, true, false, cond, lt_of_lt_of_le, lt_of_le_of_lt, subst, sym, arith, pow_pos, pow_mono, shl_lt}
use Rattle.law_rounding.specs.Sticky.{Sticky}
use Rattle.law_rounding.proofs.Sticky.{sticky_le}
use Rattle.fused_words.proofs.Carry.{mul_lt_pow}

-- the significand of a normal float
pub digits_lt : (x : ℕ) → 2 ^ 52 + x % 2 ^ 52 < 2 ^ 53
digits_lt x = omega arith

pub product_lt : (x y : ℕ) → (2 ^ 52 + x % 2 ^ 52) * (2 ^ 52 + y % 2 ^ 52) < 2 ^ 106
product_lt x y = mul_lt_pow 53 53 (digits_lt x) (digits_lt y)

pub addend_lt : (m n : ℕ) → m < 2 ^ 53 → n ≤ 62 → m * 2 ^ n < 2 ^ 115
addend_lt m n l h = lt_of_lt_of_le (shl_lt 53 n l) (pow_mono (room n h))
  where
    room : (n : ℕ) → n ≤ 62 → 53 + n ≤ 115
    room n h = omega arith

-- a shifted product is no longer than the product
pub product_short : (f a b w p : ℕ) → a < 2 ^ 53 → b < 2 ^ 53 → w ≡ a * b → Sticky (2 ^ f) w p → p < 2 ^ 106
product_short f a b w p i j e s = lt_of_le_of_lt (sticky_le (2 ^ f) w p (pow_pos f) s) (subst (λ (n : ℕ). n < 2 ^ 106) (sym e) (mul_lt_pow 53 53 i j))

pub addend_short : (m n w : ℕ) → m < 2 ^ 53 → n < 63 → w ≡ m * 2 ^ n → w < 2 ^ 115
addend_short m n w i h e = subst (λ (n : ℕ). n < 2 ^ 115) (sym e) (addend_lt m n i (omega arith))

pub sum_short : (b : Bool) (p c y : ℕ) → p < 2 ^ 106 → c < 2 ^ 115 → y ≡ cond b (2 ^ 115 + p + c) (2 ^ 115 + p - c) → y < 2 ^ 117
sum_short true p c y i j e = omega arith
sum_short false p c y i j e = omega arith
