-- Shifts to the right that keep a sticky last bit, of one word and of two. Assumes nothing.
use Rattle.std.proofs.Common.{◌≡◌, ℕ, ◌+◌, ◌-◌, ◌*◌, ◌/◌, ◌%◌, ◌^◌, ◌<◌, ◌≤◌, sym, refl, ap, ◌∙◌, subst, ap₂, le_trans, le_of_eq, lt_of_lt_of_le, lt_of_le_of_lt, add-zero, mod-lt, mod-eq_of_lt, mul_assoc, mul_comm, add-mul, div-add-mod', zero-add, zero-mul, mul_right_comm, div-mul-le_self, mul-div_cancel, arith, pow_pos, pow_mono, pow-add, shr_lt}
use native.Mathlib.Nat.{mul-mod_left}
use lib.Arith.{digits_lt, mod-mul}
use Rattle.law_rounding.specs.Sticky.{Sticky}
use Rattle.law_rounding.proofs.Sticky.{sticky_cut, sticky_again}

-- y is x, with its last digit set unless r is 0
abbrev pub Marked : ℕ → ℕ → ℕ → Type 0
Marked x r y = (r ≡ 0 → y ≡ x) × (0 < r → y ≡ x / 2 * 2 + 1)

-- what a shift there and back leaves of a word, and what it takes off
pub back_le : (x n : ℕ) → x < 2 ^ 64 → x / 2 ^ n * 2 ^ n % 2 ^ 64 ≤ x
back_le x n h = le_trans (le_of_eq (mod-eq_of_lt (lt_of_le_of_lt (div-mul-le_self x (2 ^ n)) h))) (div-mul-le_self x (2 ^ n))

rest_is : (x n : ℕ) → x < 2 ^ 64 → x - x / 2 ^ n * 2 ^ n % 2 ^ 64 ≡ x % 2 ^ n
rest_is x n h =
    let e : x / 2 ^ n * 2 ^ n % 2 ^ 64 ≡ x / 2 ^ n * 2 ^ n = mod-eq_of_lt (lt_of_le_of_lt (div-mul-le_self x (2 ^ n)) h) in
    let d = div-add-mod' x (2 ^ n) in
    omega (arith, e, d)

pub word_shifted : (x n y : ℕ) → x < 2 ^ 64 → Marked (x / 2 ^ n) (x - x / 2 ^ n * 2 ^ n % 2 ^ 64) y → Sticky (2 ^ n) x y
word_shifted x n y h m =
    let k = subst (λ (r : ℕ). Marked (x / 2 ^ n) r y) (rest_is x n h) m in
    sticky_cut (2 ^ n) x (x / 2 ^ n) (x % 2 ^ n) y (div-add-mod' x (2 ^ n)) (mod-lt x (pow_pos n)) k.0 k.1

-- from 64 on nothing is left but the sticky digit
pub word_gone : (x n y : ℕ) → x < 2 ^ 64 → 64 ≤ n → Marked 0 x y → Sticky (2 ^ n) x y
word_gone x n y h l m = sticky_cut (2 ^ n) x 0 x y (ap (λ (a : ℕ). a + x) (zero-mul (2 ^ n)) ∙ zero-add x) (lt_of_lt_of_le h (pow_mono l)) m.0 m.1

module _ (h l n : ℕ) (n-lt : n ≤ 64) (l_lt : l < 2 ^ 64) where
  pub whole : 2 ^ n * 2 ^ (64 - n) ≡ 2 ^ 64
  whole = sym (pow-add 2 n (64 - n)) ∙ ap (λ (a : ℕ). 2 ^ a) (join n n-lt)
    where
      join : (n : ℕ) → n ≤ 64 → n + (64 - n) ≡ 64
      join n h = omega arith

  -- the digits of the high word that move into the low one
  pub moved : h * 2 ^ (64 - n) % 2 ^ 64 ≡ h % 2 ^ n * 2 ^ (64 - n)
  moved =
      ap (λ (a : ℕ). h * 2 ^ (64 - n) % a) (sym whole)
      ∙ mod-mul (h * 2 ^ (64 - n)) (pow_pos n) (pow_pos (64 - n))
      ∙ ap₂ (λ (a b : ℕ). a % 2 ^ n * 2 ^ (64 - n) + b) (mul-div_cancel h (pow_pos (64 - n))) (mul-mod_left h (2 ^ (64 - n)))
      ∙ add-zero (h % 2 ^ n * 2 ^ (64 - n))

  pub moved_lt : h * 2 ^ (64 - n) % 2 ^ 64 + l / 2 ^ n < 2 ^ 64
  moved_lt =
      subst (λ (a : ℕ). a + l / 2 ^ n < 2 ^ 64) (sym moved)
      (subst (λ (a : ℕ). h % 2 ^ n * 2 ^ (64 - n) + l / 2 ^ n < a) whole
      (digits_lt (mod-lt h (pow_pos n)) (shr_lt (64 - n) n (subst (λ (a : ℕ). l < 2 ^ a) (join n n-lt) l_lt))))
    where
      join : (n : ℕ) → n ≤ 64 → 64 ≡ 64 - n + n
      join n h = omega arith

  cut : ((h / 2 ^ n * 2 ^ 64 + (h * 2 ^ (64 - n) % 2 ^ 64 + l / 2 ^ n)) * 2 ^ n + l % 2 ^ n) ≡ h * 2 ^ 64 + l
  cut =
      let u = 2 ^ n in
      let a : (h / u * 2 ^ 64 + (h * 2 ^ (64 - n) % 2 ^ 64 + l / u)) * u ≡ h / u * 2 ^ 64 * u + (h * 2 ^ (64 - n) % 2 ^ 64 + l / u) * u =
      add-mul (h / u * 2 ^ 64) (h * 2 ^ (64 - n) % 2 ^ 64 + l / u) u in
      let b : (h * 2 ^ (64 - n) % 2 ^ 64 + l / u) * u ≡ h % u * 2 ^ 64 + l / u * u =
      add-mul (h * 2 ^ (64 - n) % 2 ^ 64) (l / u) u
      ∙ ap (λ (x : ℕ). x + l / u * u)
      (ap (λ (x : ℕ). x * u) moved ∙ mul_assoc (h % u) (2 ^ (64 - n)) u ∙ ap (λ (x : ℕ). h % u * x) (mul_comm (2 ^ (64 - n)) u ∙ whole)) in
      let c : h / u * u * 2 ^ 64 + h % u * 2 ^ 64 ≡ h * 2 ^ 64 = sym (add-mul (h / u * u) (h % u) (2 ^ 64)) ∙ ap (λ (x : ℕ). x * 2 ^ 64) (div-add-mod' h u) in
      let d : h / u * 2 ^ 64 * u ≡ h / u * u * 2 ^ 64 = mul_right_comm (h / u) (2 ^ 64) u in
      let e : l / u * u + l % u ≡ l = div-add-mod' l u in
      sums (h % u * 2 ^ 64) (l / u * u) (l % u) a b c d e
    where
      sums : {z p q c h l : ℕ} (m b r : ℕ) → z ≡ p + q → q ≡ m + b → c + m ≡ h → p ≡ c → b + r ≡ l → z + r ≡ h + l
      sums {z} {p} {q} {c} {h} {l} m b r e f g i j = omega arith

  -- a high word before it does not change which digit is the last
  pub words_shifted : (y : ℕ) → Marked (h * 2 ^ (64 - n) % 2 ^ 64 + l / 2 ^ n) (l - l / 2 ^ n * 2 ^ n % 2 ^ 64) y
      → Sticky (2 ^ n) (h * 2 ^ 64 + l) (h / 2 ^ n * 2 ^ 64 + y)
  words_shifted y m =
      let k = subst (λ (r : ℕ). Marked (h * 2 ^ (64 - n) % 2 ^ 64 + l / 2 ^ n) r y) (rest_is l n l_lt) m in
      sticky_cut (2 ^ n) (h * 2 ^ 64 + l) (h / 2 ^ n * 2 ^ 64 + (h * 2 ^ (64 - n) % 2 ^ 64 + l / 2 ^ n)) (l % 2 ^ n) (h / 2 ^ n * 2 ^ 64 + y) cut
      (mod-lt l (pow_pos n))
      (λ e. ap (λ (a : ℕ). h / 2 ^ n * 2 ^ 64 + a) (k.0 e))
      (λ p. ap (λ (a : ℕ). h / 2 ^ n * 2 ^ 64 + a) (k.1 p) ∙ even (h / 2 ^ n) (h * 2 ^ (64 - n) % 2 ^ 64 + l / 2 ^ n))
    where
      even : (a b : ℕ) → a * 2 ^ 64 + (b / 2 * 2 + 1) ≡ (a * 2 ^ 64 + b) / 2 * 2 + 1
      even a b = omega arith

-- from 64 on the low word goes whole, and then the rest of the shift is the high word's
pub high_shifted : (h l n y z : ℕ) → l < 2 ^ 64 → 64 ≤ n → Marked h l y → Sticky (2 ^ (n - 64)) y z → Sticky (2 ^ n) (h * 2 ^ 64 + l) z
high_shifted h l n y z p g m s =
    subst (λ (a : ℕ). Sticky a (h * 2 ^ 64 + l) z) (sym (pow-add 2 (n - 64) 64) ∙ ap (λ (a : ℕ). 2 ^ a) (join n g))
    (sticky_again (2 ^ 64) (2 ^ (n - 64)) (h * 2 ^ 64 + l) y z (pow_pos 64) (pow_pos (n - 64))
    (sticky_cut (2 ^ 64) (h * 2 ^ 64 + l) h l y refl p m.0 m.1) s)
  where
    join : (n : ℕ) → 64 ≤ n → n - 64 + 64 ≡ n
    join n h = omega arith
