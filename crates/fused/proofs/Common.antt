-- The common case: what the biased sum, converted, comes to. Assumes nothing.
use mathlib.Core.Path.{◌≡◌, refl, sym, ap, ap₂, ◌∙◌, subst}
use mathlib.Core.Logic.{◌⊎◌, inl, inr}
use Prim.Native.Nat.{ℕ, ◌+◌, ◌-◌, ◌*◌, ◌/◌, ◌%◌, ◌^◌, ◌≤◌, ◌<◌}
use native.Mathlib.Nat.{le_trans, le_of_lt, le-add_right, lt_of_le_of_lt, lt_of_lt_of_le, mul_assoc, mul-pos, add-zero, sub-zero}
use native.Mathlib.Nat.{mul-mul-mul_comm}
use native.Mathlib.Omega.{arith}
use mathlib.Core.Bool.{Bool, true, false, not, cond, beq}
use lib.Dec.{leb, lit≤}
use lib.Pow.{pow-add, pow_pos}
use lib.Ieee.{Float, binary64, unlike, top, round}
use lib.Ieee as Ieee
use Rattle.law_rounding.specs.Sticky.{Sticky}
use Rattle.law_rounding.proofs.Numbers.{less_or_not}
use Rattle.law_rounding.proofs.Sticky.{sticky_le}
use Rattle.law_rounding.proofs.Word.{sum_sticky}
use Rattle.law_rounding.proofs.Sums.{sum_same, like_times, more_times, less_times, signs_like, signs_unlike}
use Rattle.fused_words.specs.declared.Words.{Words}
use Rattle.fused_words.specs.Words.{value}
use Rattle.fused_general.specs.Bits.{field, magnitude, Nonzero, summed}
use Rattle.fused_near.specs.Biased.{biased_sum, Converts}
use Rattle.fused_near.proofs.Sum.{digits_lt, product_lt, addend_lt}
use Rattle.law_rounding.proofs.Values.{weight_more}

-- The common case: both factors are between 2 ^ -423 and 2 ^ 427, and the addend's last digit is from 0 to 125 places above the product's.
abbrev pub Common : ℕ → ℕ → ℕ → Type 0
Common x y z =
    (600 ≤ field x) × (field x < 1450) × (600 ≤ field y) × (field y < 1450) × (field x + field y ≤ field z + 1075) × (field z + 1075 < field x + field y + 126)

-- ---- the sum of the magnitudes, at the product's exponent

products : (a b f g m n : ℕ) → 0 < f → 0 < g → a * 2 ^ (f - 1) ≡ m → b * 2 ^ (g - 1) ≡ n → m * n * 2 ^ 2150 ≡ a * b * 2 ^ (f + g) * 2 ^ 2148
products a b f g m n p q e h =
    ap (λ (k : ℕ). k * 2 ^ 2150) (ap₂ (λ (i j : ℕ). i * j) (sym e) (sym h) ∙ mul-mul-mul_comm a (2 ^ (f - 1)) b (2 ^ (g - 1)))
    ∙ mul_assoc (a * b) (2 ^ (f - 1) * 2 ^ (g - 1)) (2 ^ 2150)
    ∙ ap (λ (k : ℕ). a * b * k)
    (ap (λ (k : ℕ). k * 2 ^ 2150) (sym (pow-add 2 (f - 1) (g - 1)))
    ∙ sym (pow-add 2 (f - 1 + (g - 1)) 2150)
    ∙ ap (λ (k : ℕ). 2 ^ k) (sums f g p q)
    ∙ pow-add 2 (f + g) 2148)
    ∙ sym (mul_assoc (a * b) (2 ^ (f + g)) (2 ^ 2148))
  where
    sums : (f g : ℕ) → 0 < f → 0 < g → f - 1 + (g - 1) + 2150 ≡ f + g + 2148
    sums f g p q = omega arith

addends : (c f e m : ℕ) → 0 < f → e ≤ f + 1075 → c * 2 ^ (f - 1) ≡ m → m * 2 ^ 1074 * 2 ^ 2150 ≡ c * 2 ^ (f + 1075 - e) * 2 ^ e * 2 ^ 2148
addends c f e m p q h =
    ap (λ (k : ℕ). k * 2 ^ 1074 * 2 ^ 2150) (sym h)
    ∙ three c (2 ^ (f - 1)) (2 ^ 1074) (2 ^ 2150)
    ∙ ap (λ (k : ℕ). c * k)
    (joined (f - 1) 1074 2150 ∙ ap (λ (k : ℕ). 2 ^ k) (sums f e p q) ∙ sym (joined (f + 1075 - e) e 2148))
    ∙ sym (three c (2 ^ (f + 1075 - e)) (2 ^ e) (2 ^ 2148))
  where
    three : (a b c d : ℕ) → a * b * c * d ≡ a * (b * c * d)
    three a b c d = simp mul_assoc

    joined : (i j k : ℕ) → 2 ^ i * 2 ^ j * 2 ^ k ≡ 2 ^ (i + j + k)
    joined i j k = ap (λ (n : ℕ). n * 2 ^ k) (sym (pow-add 2 i j)) ∙ sym (pow-add 2 (i + j) k)

    sums : (f e : ℕ) → 0 < f → e ≤ f + 1075 → f - 1 + 1074 + 2150 ≡ f + 1075 - e + e + 2148
    sums f e p q = omega arith

normal_fields : (f g h : ℕ) → 600 ≤ f → f < 1450 → 600 ≤ g → g < 1450 → f + g ≤ h + 1075 → h + 1075 < f + g + 126
    → (0 < f) × (0 < g) × (0 < h) × (h < 2047) × (1200 ≤ f + g) × (f + g < 2900)
normal_fields f g h a b c d e i = (omega arith, omega arith, omega arith, omega arith, omega arith, omega arith)

pub common_fields : (x y z : ℕ) → Common x y z
    → (0 < field x) × (0 < field y) × (0 < field z) × (field z < 2047) × (1200 ≤ field x + field y) × (field x + field y < 2900)
common_fields x y z w = normal_fields (field x) (field y) (field z) w.0 w.1 w.2 w.3 w.4 w.5

pub common_nonzero : (x y z : ℕ) → Common x y z → Nonzero x × Nonzero y × Nonzero z
common_nonzero x y z w =
    let k = common_fields x y z w in
    ((lt_of_lt_of_le w.1 (lit≤ tt), not_zero x k.0), (lt_of_lt_of_le w.3 (lit≤ tt), not_zero y k.1), (k.3, not_zero z k.2))
  where
    not_zero : (b : ℕ) → 0 < b % 2 ^ 63 / 2 ^ 52 → 0 < b % 2 ^ 63
    not_zero b h = omega arith

at_product : (x y z n : ℕ) → Common x y z → field z + 1075 - (field x + field y) ≡ n → summed x y z
    ≡ Ieee.sum binary64 (unlike (leb (top binary64) x) (leb (top binary64) y))
    ((2 ^ 52 + x % 2 ^ 52) * (2 ^ 52 + y % 2 ^ 52) * 2 ^ (field x + field y)) (leb (top binary64) z)
    ((2 ^ 52 + z % 2 ^ 52) * 2 ^ n * 2 ^ (field x + field y)) (2 ^ 2150)
at_product x y z n w h =
    let k = common_fields x y z w in
    sum_same binary64 (unlike (leb (top binary64) x) (leb (top binary64) y)) (magnitude x * magnitude y) (leb (top binary64) z)
    (magnitude z * 2 ^ 1074) (2 ^ 2148)
    ((2 ^ 52 + x % 2 ^ 52) * (2 ^ 52 + y % 2 ^ 52) * 2 ^ (field x + field y)) ((2 ^ 52 + z % 2 ^ 52) * 2 ^ n * 2 ^ (field x + field y)) (2 ^ 2150)
    (pow_pos 2148) (pow_pos 2150)
    (products (2 ^ 52 + x % 2 ^ 52) (2 ^ 52 + y % 2 ^ 52) (field x) (field y) (magnitude x) (magnitude y) k.0 k.1
    (weight_more binary64 (field x) (x % 2 ^ 52) k.0) (weight_more binary64 (field y) (y % 2 ^ 52) k.1))
    (subst (λ (i : ℕ). magnitude z * 2 ^ 1074 * 2 ^ 2150 ≡ (2 ^ 52 + z % 2 ^ 52) * 2 ^ i * 2 ^ (field x + field y) * 2 ^ 2148) h
    (addends (2 ^ 52 + z % 2 ^ 52) (field z) (field x + field y) (magnitude z) k.2 w.4 (weight_more binary64 (field z) (z % 2 ^ 52) k.2)))

-- ---- what the conversion comes to

module _ (s : Bool) (p c e : ℕ) (w : Words) (r : Float) (fits : w.low < 2 ^ 64) (k : Converts s w e r) (far : (2 ^ 51 + 4 ≤ w.high) ⊎ (w.high + 4 ≤ 2 ^ 51)) where
  came_like : value w ≡ 2 ^ 115 + p + c → r ≡ Ieee.sum binary64 s (p * 2 ^ e) s (c * 2 ^ e) (2 ^ 2150)
  came_like y = elim far [
    | inl g ↦
        k.above g ∙ ap (λ (n : ℕ). round binary64 s (n * 2 ^ e) (2 ^ 2150)) (off (value w) p c y) ∙ sym (like_times binary64 s p c (2 ^ e) (2 ^ 2150))
    | inr g ↦ absurd (no w.high w.low p c fits y g)
  ]
    where
      off : (n p c : ℕ) → n ≡ 2 ^ 115 + p + c → n - 2 ^ 115 ≡ p + c
      off n p c y = omega arith

      no : (h l p c : ℕ) → l < 2 ^ 64 → h * 2 ^ 64 + l ≡ 2 ^ 115 + p + c → h + 4 ≤ 2 ^ 51 → ⊥
      no h l p c i y g = omega arith

  came_unlike : c ≤ 2 ^ 115 + p → value w ≡ 2 ^ 115 + p - c → r ≡ Ieee.sum binary64 s (p * 2 ^ e) (not s) (c * 2 ^ e) (2 ^ 2150)
  came_unlike i y = elim far [
    | inl g ↦
        let m = more w.high w.low p c i y g in
        k.above g ∙ ap (λ (n : ℕ). round binary64 s (n * 2 ^ e) (2 ^ 2150)) m.0 ∙ sym (more_times binary64 s p c (2 ^ e) (2 ^ 2150) (pow_pos e) m.1)
    | inr g ↦
        let m = fewer w.high w.low p c fits i y g in
        k.below g
        ∙ ap (λ (n : ℕ). round binary64 (not s) (n * 2 ^ e) (2 ^ 2150)) m.0
        ∙ sym (less_times binary64 s p c (2 ^ e) (2 ^ 2150) (pow_pos e) m.1)
  ]
    where
      more : (h l p c : ℕ) → c ≤ 2 ^ 115 + p → h * 2 ^ 64 + l ≡ 2 ^ 115 + p - c → 2 ^ 51 + 4 ≤ h → (h * 2 ^ 64 + l - 2 ^ 115 ≡ p - c) × (c < p)
      more h l p c i y g = (omega arith, omega arith)

      fewer : (h l p c : ℕ) → l < 2 ^ 64 → c ≤ 2 ^ 115 + p → h * 2 ^ 64 + l ≡ 2 ^ 115 + p - c → h + 4 ≤ 2 ^ 51 → (2 ^ 115 - (h * 2 ^ 64 + l) ≡ c - p) × (p < c)
      fewer h l p c j i y g = (omega arith, omega arith)

  pub came : (t : Bool) → c ≤ 2 ^ 115 + p → value w ≡ cond (beq s t) (2 ^ 115 + p + c) (2 ^ 115 + p - c)
      → r ≡ Ieee.sum binary64 s (p * 2 ^ e) t (c * 2 ^ e) (2 ^ 2150)
  came t i y = go (beq s t) refl y
    where
      go : (b : Bool) → beq s t ≡ b → value w ≡ cond b (2 ^ 115 + p + c) (2 ^ 115 + p - c)
          → r ≡ Ieee.sum binary64 s (p * 2 ^ e) t (c * 2 ^ e) (2 ^ 2150)
      go true q y = subst (λ (u : Bool). r ≡ Ieee.sum binary64 s (p * 2 ^ e) u (c * 2 ^ e) (2 ^ 2150)) (sym (signs_like s t q)) (came_like y)
      go false q y = subst (λ (u : Bool). r ≡ Ieee.sum binary64 s (p * 2 ^ e) u (c * 2 ^ e) (2 ^ 2150)) (sym (signs_unlike s t q)) (came_unlike i y)

-- how many places the addend's last digit is above the product's, as the code has it: a wrapping difference, which did not wrap where it is small
abbrev pub above : ℕ → ℕ → ℕ → ℕ
above x y z = (field z + 1075 + (2 ^ 64 - (field x + field y))) % 2 ^ 64

within : (a b : ℕ) → a < 3200 → b < 2900 → (a + (2 ^ 64 - b)) % 2 ^ 64 < 126 → (b ≤ a) × (a < b + 126) × (a - b ≡ (a + (2 ^ 64 - b)) % 2 ^ 64)
within a b i j k = (omega arith, omega arith, omega arith)

pub is_common : (x y z : ℕ) → (600 ≤ field x) × (field x < 1450) × (600 ≤ field y) × (field y < 1450) × (above x y z < 126)
    → Common x y z × (field z + 1075 - (field x + field y) ≡ above x y z)
is_common x y z (a, b, c, d, k) =
    let i = within (field z + 1075) (field x + field y) (over z) (under (field x) (field y) b d) k in
    ((a, b, c, d, i.0, i.1), i.2)
  where
    over : (z : ℕ) → z % 2 ^ 63 / 2 ^ 52 + 1075 < 3200
    over z = omega arith

    under : (f g : ℕ) → f < 1450 → g < 1450 → f + g < 2900
    under f g b d = omega arith

-- ---- a product that lies far below the addend is shifted

excess_room : (n : ℕ) → n < 126 → (n - (n - 62) ≤ 62) × (n - 62 < 64)
excess_room n h = (omega arith, omega arith)

-- with no shift the sticky product is the product
unshifted : (x y k : ℕ) → k ≡ 0 → Sticky (2 ^ k) x y → y ≡ x
unshifted x y k e s = go (subst (λ (i : ℕ). Sticky (2 ^ i) x y) e s)
  where
    go : Sticky 1 x y → y ≡ x
    go (inl g) = omega arith
    go (inr (o, l, u)) = omega arith

-- the sum of the sticky product is that of the product: either nothing was shifted out, or the addend outweighs it
product_seen : (s t : Bool) (p q m n e : ℕ) → 1200 ≤ e → p < 2 ^ 106 → 2 ^ 52 ≤ m → Sticky (2 ^ (n - 62)) p q
    → Ieee.sum binary64 s (q * 2 ^ (e + (n - 62))) t (m * 2 ^ (n - (n - 62)) * 2 ^ (e + (n - 62))) (2 ^ 2150) ≡ Ieee.sum binary64 s (p * 2 ^ e) t
    (m * 2 ^ n * 2 ^ e) (2 ^ 2150)
product_seen s t p q m n e g' i j k = elim (less_or_not 62 n) [
  | inr g ↦
      let z : n - 62 ≡ 0 = omega arith in
      ap₂ (λ (a b : ℕ). Ieee.sum binary64 s (a * 2 ^ (e + b)) t (m * 2 ^ (n - b) * 2 ^ (e + b)) (2 ^ 2150)) (unshifted p q (n - 62) z k) z
      ∙ ap₂ (λ (a b : ℕ). Ieee.sum binary64 s (p * 2 ^ a) t (m * 2 ^ b * 2 ^ a) (2 ^ 2150)) (add-zero e) (sub-zero n)
  | inl l ↦
      let f = n - 62 in
      let d : n - f ≡ 62 = omega arith in
      ap (λ (b : ℕ). Ieee.sum binary64 s (q * 2 ^ (e + f)) t (m * 2 ^ b * 2 ^ (e + f)) (2 ^ 2150)) d
      ∙ sum_sticky binary64 s t (2 ^ f) p q (m * 2 ^ 62) (e + f) 2150 (pow_pos f) k (omega arith)
      (outweighs m q j (lt_of_le_of_lt (sticky_le (2 ^ f) p q (pow_pos f) k) i)) (omega arith)
      ∙ sum_same binary64 s (p * 2 ^ (e + f)) t (m * 2 ^ 62 * 2 ^ f * 2 ^ (e + f)) (2 ^ f * 2 ^ 2150) (p * 2 ^ e) (m * 2 ^ n * 2 ^ e) (2 ^ 2150)
      (mul-pos (pow_pos f) (pow_pos 2150)) (pow_pos 2150)
      (shift_back p e f)
      (ap (λ (a : ℕ). a * 2 ^ (e + f) * 2 ^ 2150)
      (mul_assoc m (2 ^ 62) (2 ^ f) ∙ ap (λ (a : ℕ). m * a) (sym (pow-add 2 62 f) ∙ ap (λ (a : ℕ). 2 ^ a) (joined n l)))
      ∙ shift_back (m * 2 ^ n) e f)
]
  where
    outweighs : (m q : ℕ) → 2 ^ 52 ≤ m → q < 2 ^ 106 → 2 ^ 54 + q ≤ m * 2 ^ 62
    outweighs m q a b = omega arith

    joined : (n : ℕ) → 62 < n → 62 + (n - 62) ≡ n
    joined n h = omega arith

    shift_back : (a e f : ℕ) → a * 2 ^ (e + f) * 2 ^ 2150 ≡ a * 2 ^ e * (2 ^ f * 2 ^ 2150)
    shift_back a e f =
        ap (λ (b : ℕ). b * 2 ^ 2150) (ap (λ (b : ℕ). a * b) (pow-add 2 e f) ∙ sym (mul_assoc a (2 ^ e) (2 ^ f))) ∙ mul_assoc (a * 2 ^ e) (2 ^ f) (2 ^ 2150)

-- The words converted are the sum of the magnitudes: what the common case comes to.
pub common_sum : (x y z n q : ℕ) (w : Words) (r : Float) → Common x y z → field z + 1075 - (field x + field y) ≡ n → n < 126 → w.low < 2 ^ 64
    → Sticky (2 ^ (n - 62)) ((2 ^ 52 + x % 2 ^ 52) * (2 ^ 52 + y % 2 ^ 52)) q
    → value w ≡ biased_sum (beq (unlike (leb (2 ^ 63) x) (leb (2 ^ 63) y)) (leb (2 ^ 63) z)) q z (n - (n - 62))
    → Converts (unlike (leb (2 ^ 63) x) (leb (2 ^ 63) y)) w (field x + field y + (n - 62)) r
    → (2 ^ 51 + 4 ≤ w.high) ⊎ (w.high + 4 ≤ 2 ^ 51) → r ≡ summed x y z
common_sum x y z n q w r common e m k v y' t f =
    let s = unlike (leb (2 ^ 63) x) (leb (2 ^ 63) y) in
    let p = (2 ^ 52 + x % 2 ^ 52) * (2 ^ 52 + y % 2 ^ 52) in
    let d = 2 ^ 52 + z % 2 ^ 52 in
    let c = d * 2 ^ (n - (n - 62)) in
    came s q c (field x + field y + (n - 62)) w r k t f (leb (2 ^ 63) z)
    (le_trans (le_of_lt (addend_lt d (n - (n - 62)) (digits_lt z) (excess_room n m).0)) (le-add_right (2 ^ 115) q)) y'
    ∙ product_seen s (leb (2 ^ 63) z) p q d n (field x + field y) (common_fields x y z common).4 (product_lt x y) (le-add_right (2 ^ 52) (z % 2 ^ 52)) v
    ∙ sym (at_product x y z n common e)

-- the same with the shift as the code has it
pub common_shifted : (x y z n far q : ℕ) (w : Words) (r : Float) → far ≡ n - 62 → Common x y z → field z + 1075 - (field x + field y) ≡ n → n < 126
    → w.low < 2 ^ 64
    → Sticky (2 ^ far) ((2 ^ 52 + x % 2 ^ 52) * (2 ^ 52 + y % 2 ^ 52)) q
    → value w ≡ biased_sum (beq (unlike (leb (2 ^ 63) x) (leb (2 ^ 63) y)) (leb (2 ^ 63) z)) q z (n - far)
    → Converts (unlike (leb (2 ^ 63) x) (leb (2 ^ 63) y)) w (field x + field y + far) r
    → (2 ^ 51 + 4 ≤ w.high) ⊎ (w.high + 4 ≤ 2 ^ 51) → r ≡ summed x y z
common_shifted x y z n far q w r e common d m k v b t f =
    common_sum x y z n q w r common d m k
    (subst (λ (i : ℕ). Sticky (2 ^ i) ((2 ^ 52 + x % 2 ^ 52) * (2 ^ 52 + y % 2 ^ 52)) q) e v)
    (subst (λ (i : ℕ). value w ≡ biased_sum (beq (unlike (leb (2 ^ 63) x) (leb (2 ^ 63) y)) (leb (2 ^ 63) z)) q z (n - i)) e b)
    (subst (λ (i : ℕ). Converts (unlike (leb (2 ^ 63) x) (leb (2 ^ 63) y)) w (field x + field y + i) r) e t) f

-- the shift is less than a word is long
pub shift_room : (n far : ℕ) → far ≡ n - 62 → n < 126 → far < 64
shift_room n far e h = omega arith
