-- Sums modulo a base, with their carry. Assumes nothing.
use Rattle.std.proofs.Common.{◌≡◌, ℕ, ◌+◌, ◌-◌, ◌*◌, ◌/◌, ◌%◌, ◌^◌, ◌<◌, ◌≤◌, Bool, true, false, cond, ltb, sym, ap, ◌∙◌, subst, ap₂, inl, inr, le_of_eq, lt_of_lt_of_le, le_of_suc-le-suc, le-add_right, lt_of_le_of_lt, le_of_lt, mul-le-mul_right, mod-eq_of_lt, mul_assoc, suc-mul, add-mul, add_comm, lt_of_mul-lt-mul_right, mul-le-mul_left, mul-lt-mul_of_pos_right, one-mul, div-add-mod', zero-add, zero-mul, mul-add, mul_right_comm, arith, ltb→lt, lt→ltb, pow_pos, pow-add, mod-lt, nat_lt, refl}
use mir.Val.{bool_byte}
use native.Mathlib.Nat.{mod-eq-sub-mod}
use native.Mathlib.Nat.{mul-mul-mul_comm}
use lib.Arith.{le→nltb, lt_of_le-ne}
use lib.Ieee.Bits.{is_true, is_false}
use Rattle.fused_words.specs.Words.{flag}
use Rattle.law_rounding.proofs.Sums.{same_test}
use Rattle.law_rounding.proofs.Numbers.{less_or_not, sub_mul}

abbrev pick : Bool → ℕ
pick t = cond t 1 0

-- what the test for a carry says
pub flag_yes : (a b : ℕ) → a < b → flag a b ≡ 1
flag_yes a b h = ap (λ (t : Bool). pick t) (is_true (ltb a b) (lt→ltb a b h))

pub flag_no : (a b : ℕ) → b ≤ a → flag a b ≡ 0
flag_no a b h = ap (λ (t : Bool). pick t) (is_false (ltb a b) (le→nltb a b h))

-- The sum of two numbers below the base m, modulo m, is below a summand just where a carry was lost. For a difference r = a - b the sum is b + r, and the same
-- test is its borrow.
pub carried : (m a b r : ℕ) → a < m → b < m → r ≡ (a + b) % m → flag r a * m + r ≡ a + b
carried m a b r p q e = elim (less_or_not (a + b) m) [
  | inl l ↦
      let s : r ≡ a + b = e ∙ mod-eq_of_lt l in
      ap (λ (x : ℕ). x * m + r) (flag_no r a (omega arith)) ∙ ap (λ (x : ℕ). x + r) (zero-mul m) ∙ zero-add r ∙ s
  | inr g ↦
      let s : r ≡ a + b - m = e ∙ mod-eq-sub-mod g ∙ mod-eq_of_lt (omega arith) in
      ap (λ (x : ℕ). x * m + r) (flag_yes r a (omega arith)) ∙ ap (λ (x : ℕ). x + r) (one-mul m) ∙ back m r (a + b) g s
]
  where
    back : (m r s : ℕ) → m ≤ s → r ≡ s - m → m + r ≡ s
    back m r s g e = omega arith

-- the same of words, with the carry as the code takes it from its test
pub word_carried : (a b : ℕ) → a < 2 ^ 64 → b < 2 ^ 64 → bool_byte (nat_lt ((a + b) % 2 ^ 64) a) * 2 ^ 64 + (a + b) % 2 ^ 64 ≡ a + b
word_carried a b p q =
    ap (λ (k : ℕ). k * 2 ^ 64 + (a + b) % 2 ^ 64) (byte_is (nat_lt ((a + b) % 2 ^ 64) a)) ∙ carried (2 ^ 64) a b ((a + b) % 2 ^ 64) p q refl
  where
    byte_is : (t : Bool) → bool_byte t ≡ pick t
    byte_is true = refl
    byte_is false = refl

pub mul_lt_pow : (i j : ℕ) {x y : ℕ} → x < 2 ^ i → y < 2 ^ j → x * y < 2 ^ (i + j)
mul_lt_pow i j {x} {y} p q =
    lt_of_le_of_lt (mul-le-mul_left x (le_of_lt q)) (lt_of_lt_of_le (mul-lt-mul_of_pos_right p (pow_pos j)) (le_of_eq (sym (pow-add 2 i j))))

-- ---- two columns to the base m

columns : (m x y k l a b : ℕ) → k * m + l ≡ a + b → (x + y + k) * m + l ≡ x * m + a + (y * m + b)
columns m x y k l a b e = let d = add-mul (x + y) k m in let f = add-mul x y m in omega (arith, d, f, e)

pub added : (m x a y b r : ℕ) → a < m → b < m → r ≡ (a + b) % m → (k : ℕ) → k ≡ flag r a → (x + y + k) * m + r ≡ x * m + a + (y * m + b)
added m x a y b r p q w k e = columns m x y k r a b (ap (λ (i : ℕ). i * m + r) e ∙ carried m a b r p q w)

-- x less y, with the borrow k
module _ (m x a y b r : ℕ) (r_lt : r < m) (a_lt : a < m) (b_lt : b < m) (h : y * m + b ≤ x * m + a) (w : (r + b) % m ≡ a) (k : ℕ) (e : k ≡ flag a b) where
  low : k * m + a ≡ b + r
  low = ap (λ (i : ℕ). i * m + a) e ∙ carried m b r a b_lt r_lt (sym w ∙ ap (λ (i : ℕ). i % m) (add_comm r b))

  pub borrow_room : y + k ≤ x
  borrow_room = le_of_suc-le-suc (lt_of_mul-lt-mul_right m (bound (add-mul y k m) (suc-mul x m) low))
    where
      bound : {p q : ℕ} → p ≡ y * m + k * m → q ≡ x * m + m → k * m + a ≡ b + r → p < q
      bound {p} {q} f g i = omega (arith, f, g, h, i, r_lt)

  pub subtracted : (x - y - k) * m + r ≡ x * m + a - (y * m + b)
  subtracted =
      let d = sub_mul (x - y) k m in
      let f = sub_mul x y m in
      let g : (y + k) * m ≤ x * m = mul-le-mul_right m borrow_room in
      let i = add-mul y k m in
      let j = low in
      omega (arith, d, f, g, i, j)

pub lowest_fits : (a b : ℕ) → a % 2 ^ 32 * (b % 2 ^ 32) < 2 ^ 64
lowest_fits a b = mul_lt_pow 32 32 (mod-lt a (pow_pos 32)) (mod-lt b (pow_pos 32))

-- a product of two numbers of two digits each: the middle column is cut into its digits, the lowest sum has the carry k
pub multiplied : (n a b k l : ℕ) → k * (n * n) + l ≡ a % n * (b % n) + (a / n * (b % n) + a % n * (b / n)) % n * n
    → (a / n * (b / n) + (a / n * (b % n) + a % n * (b / n)) / n + k) * (n * n) + l ≡ a * b
multiplied n a b k l e =
    rearranged (a / n) (a % n) (b / n) (b % n) ((a / n * (b % n) + a % n * (b / n)) / n) ((a / n * (b % n) + a % n * (b / n)) % n) e
    (div-add-mod' (a / n * (b % n) + a % n * (b / n)) n)
    ∙ ap₂ (λ (x y : ℕ). x * y) (div-add-mod' a n) (div-add-mod' b n)
  where
    rearranged : (a₁ a₀ b₁ b₀ h r : ℕ) → k * (n * n) + l ≡ a₀ * b₀ + r * n → h * n + r ≡ a₁ * b₀ + a₀ * b₁
        → (a₁ * b₁ + h + k) * (n * n) + l ≡ (a₁ * n + a₀) * (b₁ * n + b₀)
    rearranged a₁ a₀ b₁ b₀ h r e f =
        let i : (a₁ * b₁ + h + k) * (n * n) ≡ (a₁ * b₁ + h) * (n * n) + k * (n * n) = add-mul (a₁ * b₁ + h) k (n * n) in
        let j : (a₁ * b₁ + h) * (n * n) ≡ a₁ * b₁ * (n * n) + h * n * n =
        add-mul (a₁ * b₁) h (n * n) ∙ ap (λ (x : ℕ). a₁ * b₁ * (n * n) + x) (sym (mul_assoc h n n)) in
        let o : h * n * n + r * n ≡ a₁ * b₀ * n + a₀ * b₁ * n = sym (add-mul (h * n) r n) ∙ ap (λ (x : ℕ). x * n) f ∙ add-mul (a₁ * b₀) (a₀ * b₁) n in
        let p : (a₁ * n + a₀) * (b₁ * n + b₀) ≡ a₁ * n * (b₁ * n + b₀) + a₀ * (b₁ * n + b₀) = add-mul (a₁ * n) a₀ (b₁ * n + b₀) in
        let q : a₁ * n * (b₁ * n + b₀) ≡ a₁ * b₁ * (n * n) + a₁ * b₀ * n =
        mul-add (a₁ * n) (b₁ * n) b₀ ∙ ap₂ (λ (x y : ℕ). x + y) (mul-mul-mul_comm a₁ n b₁ n) (mul_right_comm a₁ n b₀) in
        let s : a₀ * (b₁ * n + b₀) ≡ a₀ * b₁ * n + a₀ * b₀ = mul-add a₀ (b₁ * n) b₀ ∙ ap (λ (x : ℕ). x + a₀ * b₀) (sym (mul_assoc a₀ b₁ n)) in
        omega (arith, i, j, o, p, q, s, e)

-- ---- the order of two numbers of two digits

pub less_low : (x a y b : ℕ) → x ≡ y → ltb a b ≡ ltb (x * 2 ^ 64 + a) (y * 2 ^ 64 + b)
less_low x a y b e =
    let t : x * 2 ^ 64 ≡ y * 2 ^ 64 = ap (λ (i : ℕ). i * 2 ^ 64) e in
    same_test (ltb a b) (ltb (x * 2 ^ 64 + a) (y * 2 ^ 64 + b))
    (λ h. let l = ltb→lt a b h in lt→ltb (x * 2 ^ 64 + a) (y * 2 ^ 64 + b) (omega (arith, l, t)))
    (λ h. let l = ltb→lt (x * 2 ^ 64 + a) (y * 2 ^ 64 + b) h in lt→ltb a b (omega (arith, l, t)))

pub less_high : (x a y b : ℕ) → a < 2 ^ 64 → b < 2 ^ 64 → (x ≡ y → ⊥) → ltb x y ≡ ltb (x * 2 ^ 64 + a) (y * 2 ^ 64 + b)
less_high x a y b p q n =
    same_test (ltb x y) (ltb (x * 2 ^ 64 + a) (y * 2 ^ 64 + b))
    (λ h. let l = ltb→lt x y h in lt→ltb (x * 2 ^ 64 + a) (y * 2 ^ 64 + b) (omega (arith, l, p)))
    (λ h. let l = ltb→lt (x * 2 ^ 64 + a) (y * 2 ^ 64 + b) h in lt→ltb x y (lt_of_le-ne (omega (arith, l, q)) n))

-- ---- the high digit of a bounded number

pub high_lt : (h l y k : ℕ) → h * 2 ^ 64 + l ≡ y → y < 2 ^ (k + 64) → h < 2 ^ k
high_lt h l y k e u =
    lt_of_mul-lt-mul_right (2 ^ 64)
    (lt_of_le_of_lt (le-add_right (h * 2 ^ 64) l) (subst (λ (a : ℕ). a < 2 ^ k * 2 ^ 64) (sym e) (subst (λ (a : ℕ). y < a) (pow-add 2 k 64) u)))
