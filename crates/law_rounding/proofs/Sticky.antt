-- Laws of `Sticky`: how it comes about, what it goes through, and that rounding to a multiple of four sees no difference. Assumes nothing.
use mathlib.Core.Path.{◌≡◌, sym, ap, ap₂, ◌∙◌, subst}
use mathlib.Core.Logic.{◌⊎◌, inl, inr}
use Prim.Native.Nat.{ℕ, suc, ◌+◌, ◌-◌, ◌*◌, ◌/◌, ◌%◌, ◌≤◌, ◌<◌, compare}
use native.Mathlib.Nat.{le_trans, le_of_eq, lt_of_lt_of_le, lt_of_le_of_lt, add-mul, suc-mul, mul_assoc, mul_comm}
use native.Mathlib.Nat.{mul_right_comm, mul_left_comm, mul-pos, mul-one, mul-le-mul_left, mul-le-mul_right}
use native.Mathlib.Nat.{mul-lt-mul_of_pos_right, div-add-mod', le_of_lt, mod-lt, mul-mod_left, eq-zero-or-pos}
use native.Mathlib.Omega.{arith}
use lib.Dec.{lit<}
use lib.Ieee.{nearest}
use lib.Ieee.Nearest.{closest, closest_same}
use Rattle.law_rounding.proofs.Numbers.{less_or_not, sub_mul, div_is, compare_lt, compare_gt}
use Rattle.law_rounding.specs.Sticky.{Sticky}

-- ---- how it comes about: a quotient, with its last digit set where the division leaves a rest

pub sticky_cut : (v x q r y : ℕ) → q * v + r ≡ x → r < v → (r ≡ 0 → y ≡ q) → (0 < r → y ≡ q / 2 * 2 + 1) → Sticky v x y
sticky_cut v x q r y d l none some = elim (eq-zero-or-pos r) [
  | inl e ↦ let f = none e in inl (subst (λ (a : ℕ). x ≡ a * v) (sym f) (whole e))
  | inr p ↦ inr (subst (λ (a : ℕ). (a % 2 ≡ 1) × ((a - 1) * v < x) × (x < suc a * v)) (sym (some p)) (odd p))
]
  where
    whole : r ≡ 0 → x ≡ q * v
    whole e = omega (arith, d, e)

    odd : 0 < r → ((q / 2 * 2 + 1) % 2 ≡ 1) × ((q / 2 * 2 + 1 - 1) * v < x) × (x < suc (q / 2 * 2 + 1) * v)
    odd p =
        let low : (q / 2 * 2 + 1 - 1) * v ≤ q * v = mul-le-mul_right v (omega arith) in
        let high : suc q * v ≤ suc (q / 2 * 2 + 1) * v = mul-le-mul_right v (omega arith) in
        let s : suc q * v ≡ q * v + v = suc-mul q v in
        (omega arith, omega (arith, d, low, p), omega (arith, d, high, s, l))

-- ---- what it goes through: an even number added, taken off, or taken from

pub sticky_add : (v b x y : ℕ) → b % 2 ≡ 0 → Sticky v x y → Sticky v (b * v + x) (b + y)
sticky_add v b x y e (inl h) = inl (ap (λ (z : ℕ). b * v + z) h ∙ sym (add-mul b y v))
sticky_add v b x y e (inr (o, l, u)) =
    let p : (b + y - 1) * v ≡ b * v + (y - 1) * v = ap (λ (z : ℕ). z * v) (before b y o) ∙ add-mul b (y - 1) v in
    let q : suc (b + y) * v ≡ b * v + suc y * v = ap (λ (z : ℕ). z * v) (after b y) ∙ add-mul b (suc y) v in
    inr (still b y e o, omega (arith, p, l), omega (arith, q, u))
  where
    before : (b y : ℕ) → y % 2 ≡ 1 → b + y - 1 ≡ b + (y - 1)
    before b y o = omega arith

    after : (b y : ℕ) → suc (b + y) ≡ b + suc y
    after b y = omega arith

    still : (b y : ℕ) → b % 2 ≡ 0 → y % 2 ≡ 1 → (b + y) % 2 ≡ 1
    still b y e o = omega arith

pub sticky_from : (v b x y : ℕ) → b % 2 ≡ 0 → y ≤ b → Sticky v x y → Sticky v (b * v - x) (b - y)
sticky_from v b x y e h (inl g) = inl (ap (λ (z : ℕ). b * v - z) g ∙ sym (sub_mul b y v))
sticky_from v b x y e h (inr (o, l, u)) =
    let p : (b - y - 1) * v ≡ b * v - suc y * v = ap (λ (z : ℕ). z * v) (before b y) ∙ sub_mul b (suc y) v in
    let q : suc (b - y) * v ≡ b * v - (y - 1) * v = ap (λ (z : ℕ). z * v) (after b y h o) ∙ sub_mul b (y - 1) v in
    let w : suc y * v ≤ b * v = mul-le-mul_right v (room b y e h o) in
    inr (still b y e h o, omega (arith, p, u, w), omega (arith, q, l, w, u))
  where
    before : (b y : ℕ) → b - y - 1 ≡ b - suc y
    before b y = omega arith

    after : (b y : ℕ) → y ≤ b → y % 2 ≡ 1 → suc (b - y) ≡ b - (y - 1)
    after b y h o = omega arith

    room : (b y : ℕ) → b % 2 ≡ 0 → y ≤ b → y % 2 ≡ 1 → suc y ≤ b
    room b y e h o = omega arith

    still : (b y : ℕ) → b % 2 ≡ 0 → y ≤ b → y % 2 ≡ 1 → (b - y) % 2 ≡ 1
    still b y e h o = omega arith

-- an even number that is at most an odd one is below it
before_odd : (b y : ℕ) → b % 2 ≡ 0 → b ≤ y → y % 2 ≡ 1 → b ≤ y - 1
before_odd b y e h o = omega arith

pub sticky_less : (v b x y : ℕ) → b % 2 ≡ 0 → b ≤ y → Sticky v x y → Sticky v (x - b * v) (y - b)
sticky_less v b x y e h (inl g) = inl (ap (λ (z : ℕ). z - b * v) g ∙ sym (sub_mul y b v))
sticky_less v b x y e h (inr (o, l, u)) =
    let p : (y - b - 1) * v ≡ (y - 1) * v - b * v = ap (λ (z : ℕ). z * v) (before b y) ∙ sub_mul (y - 1) b v in
    let q : suc (y - b) * v ≡ suc y * v - b * v = ap (λ (z : ℕ). z * v) (after b y h) ∙ sub_mul (suc y) b v in
    let w : b * v ≤ (y - 1) * v = mul-le-mul_right v (before_odd b y e h o) in
    inr (still b y e h o, omega (arith, p, l, w), omega (arith, q, u, w, l))
  where
    before : (b y : ℕ) → y - b - 1 ≡ y - 1 - b
    before b y = omega arith

    after : (b y : ℕ) → b ≤ y → suc (y - b) ≡ suc y - b
    after b y h = omega arith

    still : (b y : ℕ) → b % 2 ≡ 0 → b ≤ y → y % 2 ≡ 1 → (y - b) % 2 ≡ 1
    still b y e h o = omega arith

-- cut twice
pub sticky_again : (v w x y z : ℕ) → 0 < v → 0 < w → Sticky v x y → Sticky w y z → Sticky (w * v) x z
sticky_again v w x y z p q (inl g) (inl h) = inl (g ∙ ap (λ (a : ℕ). a * v) h ∙ mul_assoc z w v)
sticky_again v w x y z p q (inl g) (inr (o, l, u)) =
    let l' : (z - 1) * w * v < y * v = mul-lt-mul_of_pos_right l p in
    let u' : y * v < suc z * w * v = mul-lt-mul_of_pos_right u p in
    inr (
      o,
      subst (λ (a : ℕ). (z - 1) * (w * v) < a) (sym g) (rw (mul_assoc (z - 1) w v) at l'),
      subst (λ (a : ℕ). a < suc z * (w * v)) (sym g) (rw (mul_assoc (suc z) w v) at u'),
    )
sticky_again v w x y z p q (inr (o, l, u)) h = inr (odd h, lower h, upper h)
  where
    even_even : (a : ℕ) → z % 2 ≡ 0 → a ≡ z * w → a % 2 ≡ 0
    even_even a e g =
        let d : z / 2 * 2 ≡ z = omega arith in
        ap (λ (b : ℕ). b % 2) (g ∙ ap (λ (b : ℕ). b * w) (sym d) ∙ mul_right_comm (z / 2) 2 w) ∙ mul-mod_left (z / 2 * w) 2

    odd_or_even : (a : ℕ) → (a % 2 ≡ 0) ⊎ (a % 2 ≡ 1)
    odd_or_even a = elim (eq-zero-or-pos (a % 2)) [
      | inl e ↦ inl e
      | inr s ↦ inr (omega arith)
    ]

    clash : (a : ℕ) → a % 2 ≡ 1 → a % 2 ≡ 0 → ⊥
    clash a e f = omega arith

    odd : Sticky w y z → z % 2 ≡ 1
    odd (inr (o', l', u')) = o'
    odd (inl g) = elim (odd_or_even z) [
      | inl e ↦ absurd (clash y o (even_even y e g))
      | inr e ↦ e
    ]

    low' : Sticky w y z → (z - 1) * w ≤ y - 1
    low' (inr (o', l', u')) = omega arith
    low' (inl g) = let s = sub_mul z 1 w in omega arith

    high' : Sticky w y z → suc y ≤ suc z * w
    high' (inr (o', l', u')) = omega arith
    high' (inl g) = let s = suc-mul z w in omega arith

    lower : Sticky w y z → (z - 1) * (w * v) < x
    lower s = lt_of_le_of_lt (le_trans (le_of_eq (sym (mul_assoc (z - 1) w v))) (mul-le-mul_right v (low' s))) l

    upper : Sticky w y z → x < suc z * (w * v)
    upper s = lt_of_lt_of_le u (le_trans (mul-le-mul_right v (high' s)) (le_of_eq (mul_assoc (suc z) w v)))

-- ---- bounds of y are bounds of x: from above any, from below an even one

pub sticky_below : (v x y t : ℕ) → 0 < v → y < t → Sticky v x y → x < t * v
sticky_below v x y t p h (inl g) = subst (λ (a : ℕ). a < t * v) (sym g) (mul-lt-mul_of_pos_right h p)
sticky_below v x y t p h (inr (o, l, u)) = lt_of_lt_of_le u (mul-le-mul_right v h)

pub sticky_above : (v x y t : ℕ) → t % 2 ≡ 0 → t ≤ y → Sticky v x y → t * v ≤ x
sticky_above v x y t e h (inl g) = le_trans (mul-le-mul_right v h) (le_of_eq (sym g))
sticky_above v x y t e h (inr (o, l, u)) = le_trans (mul-le-mul_right v (before_odd t y e h o)) (le_of_lt l)

-- ---- what rounding sees

-- Rounded to a multiple of 4 u, x / v and y give the same: neither a multiple nor the middle between two is odd.
pub closest_sticky : (v x y u : ℕ) → 0 < v → 0 < u → Sticky v x y → closest x (4 * u * v) ≡ closest y (4 * u)
closest_sticky v x y u p q (inl g) =
    closest_same x (4 * u * v) y (4 * u) (mul-pos (mul-pos four q) p) (mul-pos four q)
    (ap (λ (a : ℕ). a * (4 * u)) g ∙ mul_assoc y v (4 * u) ∙ ap (λ (a : ℕ). y * a) (mul_comm v (4 * u)))
  where
    four : 0 < 4
    four = lit< tt
closest_sticky v x y u p q (inr (o, l, h)) =
    let m = 4 * u in
    let m_pos : 0 < m = mul-pos (lit< tt) q in
    let c_pos : 0 < m * v = mul-pos m_pos p in
    let a = y / m in
    let r = y % m in
    let d : a * m + r ≡ y = div-add-mod' y m in
    let r_lt : r < m = mod-lt y m_pos in
    let even : a * m ≡ 2 * (a * u * 2) = four a u in
    let odd : r % 2 ≡ 1 = rest_odd (a * m) (a * u * 2) r y even d o in
    let whole : x / (m * v) ≡ a =
    div_is x (m * v) a c_pos
    (le_of_lt (lt_of_le_of_lt (le_trans (le_of_eq (sym (mul_assoc a m v))) (mul-le-mul_right v (under (a * m) r y d odd))) l))
    (lt_of_lt_of_le h (le_trans (mul-le-mul_right v (over (a * m) r m y d r_lt (suc-mul a m))) (le_of_eq (mul_assoc (suc a) m v)))) in
    let rest : a * (m * v) + x % (m * v) ≡ x = subst (λ (b : ℕ). b * (m * v) + x % (m * v) ≡ x) whole (div-add-mod' x (m * v)) in
    let parts : a * m * v + x % (m * v) ≡ x = ap (λ (b : ℕ). b + x % (m * v)) (mul_assoc a m v) ∙ rest in
    let same : compare (x % (m * v) * 2) (m * v) ≡ compare (r * 2) m =
    orders r u (x % (m * v)) odd
    (part_low (a * m * v) ((r - 1) * v) ((y - 1) * v) x (x % (m * v)) parts
    (ap (λ (b : ℕ). b * v) (shift_low (a * m) r y d odd) ∙ add-mul (a * m) (r - 1) v) l)
    (part_high (a * m * v) (suc r * v) (suc y * v) x (x % (m * v)) parts
    (ap (λ (b : ℕ). b * v) (shift_high (a * m) r y d) ∙ add-mul (a * m) (suc r) v) h) in
    ap₂ nearest whole same
  where
    four : (a u : ℕ) → a * (4 * u) ≡ 2 * (a * u * 2)
    four a u = let e = mul_left_comm a 4 u in omega (arith, e)

    rest_odd : (am t r y : ℕ) → am ≡ 2 * t → am + r ≡ y → y % 2 ≡ 1 → r % 2 ≡ 1
    rest_odd am t r y e d o = omega arith

    under : (am r y : ℕ) → am + r ≡ y → r % 2 ≡ 1 → am ≤ y - 1
    under am r y d o = omega arith

    over : (am r m y : ℕ) → am + r ≡ y → r < m → {b : ℕ} → b ≡ am + m → suc y ≤ b
    over am r m y d k {b} e = omega arith

    shift_low : (am r y : ℕ) → am + r ≡ y → r % 2 ≡ 1 → y - 1 ≡ am + (r - 1)
    shift_low am r y d o = omega arith

    shift_high : (am r y : ℕ) → am + r ≡ y → suc y ≡ am + suc r
    shift_high am r y d = omega arith

    part_low : (am s t x b : ℕ) → am + b ≡ x → t ≡ am + s → t < x → s < b
    part_low am s t x b d e k = omega arith

    part_high : (am s t x b : ℕ) → am + b ≡ x → t ≡ am + s → x < t → b < s
    part_high am s t x b d e k = omega arith

    orders : (r u b : ℕ) → r % 2 ≡ 1 → (r - 1) * v < b → b < suc r * v → compare (b * 2) (4 * u * v) ≡ compare (r * 2) (4 * u)
    orders r u b o f g = elim (less_or_not r (2 * u)) [
      | inl k ↦
          let w : suc r * v ≤ 2 * u * v = mul-le-mul_right v k in
          compare_lt (b * 2) (4 * u * v) (twice_lt u v b (lt_of_lt_of_le g w)) ∙ sym (compare_lt (r * 2) (4 * u) (omega arith))
      | inr k ↦
          let w : 2 * u * v ≤ (r - 1) * v = mul-le-mul_right v (omega arith) in
          compare_gt (b * 2) (4 * u * v) (twice_gt u v b (lt_of_le_of_lt w f)) ∙ sym (compare_gt (r * 2) (4 * u) (omega arith))
    ]
      where
        twice_lt : (u v b : ℕ) → b < 2 * u * v → b * 2 < 4 * u * v
        twice_lt u v b h = let e = mul_assoc 4 u v in let g = mul_assoc 2 u v in omega (arith, e, g)

        twice_gt : (u v b : ℕ) → 2 * u * v < b → 4 * u * v < b * 2
        twice_gt u v b h = let e = mul_assoc 4 u v in let g = mul_assoc 2 u v in omega (arith, e, g)

pub sticky_le : (v x y : ℕ) → 0 < v → Sticky v x y → y ≤ x
sticky_le v x y p (inl g) = le_trans (le_trans (le_of_eq (sym (mul-one y))) (mul-le-mul_left y p)) (le_of_eq (sym g))
sticky_le v x y p (inr (o, l, h)) = at_most y x o (lt_of_le_of_lt (le_trans (le_of_eq (sym (mul-one (y - 1)))) (mul-le-mul_left (y - 1) p)) l)
  where
    at_most : (y x : ℕ) → y % 2 ≡ 1 → y - 1 < x → y ≤ x
    at_most y x o h = omega arith
