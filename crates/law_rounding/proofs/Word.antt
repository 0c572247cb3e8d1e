-- The bit pattern of a rounded fraction, worked out from a word that holds its leading digits, with a sticky last one. Assumes nothing.
use mathlib.Core.Path.{◌≡◌, sym, ap, ap₂, ◌∙◌, subst, subst₂}
use mathlib.Core.Logic.{◌⊎◌, inl, inr}
use Prim.Native.Nat.{ℕ, suc, ◌+◌, ◌-◌, ◌*◌, ◌/◌, ◌%◌, ◌^◌, ◌≤◌, ◌<◌, compare, min}
use native.Mathlib.Nat.{le_trans, le_of_eq, lt_of_lt_of_le, lt_irrefl, lt_of_not-le, mul_comm, mul_assoc}
use native.Mathlib.Nat.{mul_left_comm, mul-pos, mul-le-mul_right, mul-lt-mul_of_pos_right, div-lt_iff_lt-mul, le-div_iff_mul-le}
use native.Mathlib.Nat.{one-mul, mul-one, zero-lt-suc, add_comm, le-add_right, le-add_left, le_of_lt}
use native.Mathlib.Omega.{arith}
use mathlib.Core.Bool.{Bool, not, cond}
use lib.Dec.{T}
use lib.Pow.{pow-add, pow_pos, pow_mono, shr_lt}
use lib.Ieee.{Float, Format, prec, low, size, round, units, sum, fits, hid, ones, top, of_bits}
use lib.Ieee.Digits.{size-lt, size-le, size_reaches}
use lib.Ieee.Fits.{two, round_is, round-fits, nearest-le}
use lib.Ieee.Nearest.{closest, closest_same, nearest-ge}
use Rattle.law_rounding.specs.Sticky.{Sticky}
use Rattle.law_rounding.proofs.Sticky.{sticky_add, sticky_from, sticky_below, sticky_above, closest_sticky}
use Rattle.law_rounding.proofs.Sums.{by_signs, like_times, less_times}
use Rattle.law_rounding.proofs.Pattern.{twice, Digits, units_bits}

even_power : (d : ℕ) → 0 < d → 2 ^ d % 2 ≡ 0
even_power d h = ap (λ (x : ℕ). x % 2) (twice d h) ∙ even (2 ^ (d - 1))
  where
    even : (a : ℕ) → (a + a) % 2 ≡ 0
    even a = omega arith

-- x * 2 ^ g / (v * 2 ^ h), where the word w is x / v with a sticky last digit. Of w the d last digits are dropped, and what is kept counts
-- 2 ^ k of the format's smallest values. Either k is 0, or w has all the digits that it may have.
module _ (f : Format) (s : Bool) (v x w g h k d : ℕ) (v-pos : 0 < v) (two-dropped : 2 ≤ d) (scale : g + low f + d ≡ h + k)
    (sticky : Sticky v x w) (short : w < 2 ^ (prec f + d)) (long : (k ≡ 0) ⊎ (2 ^ (prec f - 1 + d) ≤ w)) where
  abbrev n : ℕ
  n = x * 2 ^ g * 2 ^ low f

  abbrev den : ℕ
  den = v * 2 ^ h

  den_pos : 0 < den
  den_pos = mul-pos v-pos (pow_pos h)

  n_is : n ≡ x * 2 ^ (g + low f)
  n_is = mul_assoc x (2 ^ g) (2 ^ low f) ∙ ap (λ (a : ℕ). x * a) (sym (pow-add 2 g (low f)))

  -- a bound t * 2 ^ d of w is a bound t * 2 ^ k of the fraction in smallest values
  bound : (t : ℕ) → t * 2 ^ d * v * 2 ^ (g + low f) ≡ t * 2 ^ k * den
  bound t =
      sort t (2 ^ d) v (2 ^ (g + low f))
      ∙ ap (λ (a : ℕ). t * (v * a)) (sym (pow-add 2 (g + low f) d) ∙ ap (λ (a : ℕ). 2 ^ a) scale ∙ pow-add 2 h k)
      ∙ sort' t v (2 ^ h) (2 ^ k)
    where
      sort : (t d v g : ℕ) → t * d * v * g ≡ t * (v * (g * d))
      sort t d v g = simp (mul_assoc, mul_comm, mul_left_comm)

      sort' : (t v h k : ℕ) → t * (v * (h * k)) ≡ t * k * (v * h)
      sort' t v h k = simp (mul_assoc, mul_comm, mul_left_comm)

  -- the same of a power of two
  bound_power : (p : ℕ) → 2 ^ (p + d) * v * 2 ^ (g + low f) ≡ 2 ^ (p + k) * den
  bound_power p =
      ap (λ (a : ℕ). a * v * 2 ^ (g + low f)) (pow-add 2 p d) ∙ bound (2 ^ p) ∙ ap (λ (a : ℕ). a * den) (sym (pow-add 2 p k))

  below : n / den < 2 ^ (prec f + k)
  below =
      (div-lt_iff_lt-mul den_pos).1
      (subst (λ (a : ℕ). n < a) (bound_power (prec f))
      (subst (λ (a : ℕ). a < 2 ^ (prec f + d) * v * 2 ^ (g + low f)) (sym n_is)
      (mul-lt-mul_of_pos_right (sticky_below v x w (2 ^ (prec f + d)) v-pos short sticky) (pow_pos (g + low f)))))

  above : 2 ^ (prec f - 1 + d) ≤ w → 2 ^ (prec f - 1 + k) ≤ n / den
  above l =
      (le-div_iff_mul-le den_pos).1
      (subst (λ (a : ℕ). a ≤ n) (bound_power (prec f - 1))
      (le_trans
      (mul-le-mul_right (2 ^ (g + low f)) (sticky_above v x w (2 ^ (prec f - 1 + d)) (even_power (prec f - 1 + d) (omega arith)) l sticky))
      (le_of_eq (sym n_is))))

  drops : size (n / den) - prec f ≡ k
  drops = go long (size-le (n / den) (prec f + k) below)
    where
      none : (z p k : ℕ) → k ≡ 0 → z ≤ p + k → z - p ≡ k
      none z p k e l = omega arith

      some : (z p k : ℕ) → p - 1 + k < z → z ≤ p + k → z - p ≡ k
      some z p k l u = omega arith

      go : (k ≡ 0) ⊎ (2 ^ (prec f - 1 + d) ≤ w) → size (n / den) ≤ prec f + k → size (n / den) - prec f ≡ k
      go (inl e) u = none (size (n / den)) (prec f) k e u
      go (inr l) u =
          some (size (n / den)) (prec f) k
          (lt_of_not-le (λ (g' : size (n / den) ≤ prec f - 1 + k).
          lt_irrefl (n / den) (lt_of_lt_of_le (size-lt (n / den)) (le_trans (pow_mono g') (above l))))) u

  digits : closest n (den * 2 ^ k) ≡ closest w (2 ^ d)
  digits =
      let u = 2 ^ (d - 2) in
      let four : 2 ^ d ≡ 4 * u = ap (λ (a : ℕ). 2 ^ a) (split d two-dropped) ∙ pow-add 2 2 (d - 2) in
      let u_pos : 0 < 4 * u = subst (λ (a : ℕ). 0 < a) four (pow_pos d) in
      closest_same n (den * 2 ^ k) x (4 * u * v) (mul-pos den_pos (pow_pos k)) (mul-pos u_pos v-pos)
      (ap₂ (λ (a b : ℕ). a * (b * v)) n_is (sym four)
      ∙ sort x (2 ^ (g + low f)) (2 ^ d) v
      ∙ ap (λ (a : ℕ). x * a) (bound 1 ∙ ap (λ (a : ℕ). a * den) (one-mul (2 ^ k)) ∙ mul_comm (2 ^ k) den))
      ∙ closest_sticky v x w u v-pos (pow_pos (d - 2)) sticky
      ∙ ap (closest w) (sym four)
    where
      split : (d : ℕ) → 2 ≤ d → d ≡ 2 + (d - 2)
      split d h = omega arith

      sort : (x g d v : ℕ) → x * g * (d * v) ≡ x * (1 * d * v * g)
      sort x g d v = simp (one-mul, mul_assoc, mul_comm, mul_left_comm)

  kept : Digits (prec f) (closest w (2 ^ d)) k
  kept = (le_trans (nearest-le (w / 2 ^ d) (compare (w % 2 ^ d * 2) (2 ^ d))) (shr_lt (prec f) d short), go long)
    where
      go : (k ≡ 0) ⊎ (2 ^ (prec f - 1 + d) ≤ w) → (k ≡ 0) ⊎ (2 ^ (prec f - 1) ≤ closest w (2 ^ d))
      go (inl e) = inl e
      go (inr l) =
          inr (le_trans
          ((le-div_iff_mul-le (pow_pos d)).1 (le_trans (le_of_eq (sym (pow-add 2 (prec f - 1) d))) l))
          (nearest-ge (w / 2 ^ d) (compare (w % 2 ^ d * 2) (2 ^ d))))

  pub round_word : round f s (x * 2 ^ g) (v * 2 ^ h) ≡ of_bits f (cond s (top f) 0 + min (k * hid f + closest w (2 ^ d)) (ones f * hid f))
  round_word =
      let is : round f s (x * 2 ^ g) den ≡ units f s (closest w (2 ^ d)) k =
      round_is f s (x * 2 ^ g) den ∙ ap (λ (a : ℕ). units f s (closest n (den * 2 ^ a)) a) drops ∙ ap (λ (a : ℕ). units f s a k) digits in
      is ∙ units_bits f s (closest w (2 ^ d)) k (subst (λ (y : Float). T (fits f y)) is (round-fits f s (x * 2 ^ g) den)) kept

-- A sticky number of at least prec + 2 digits rounds as what it stands for.
pub round_sticky : (f : Format) (s : Bool) (v x y g h : ℕ) → 0 < v → Sticky v x y → 2 ^ suc (prec f) ≤ y → h ≤ g + low f + 2
    → round f s (x * 2 ^ g) (v * 2 ^ h) ≡ round f s (y * 2 ^ g) (2 ^ h)
round_sticky f s v x y g h p t l u =
    let d = size y - prec f in
    let many : suc (prec f) < size y = lt_of_not-le (λ (n : size y ≤ suc (prec f)). lt_irrefl y (lt_of_lt_of_le (size-lt y) (le_trans (pow_mono n) l))) in
    let pattern = min ((g + low f + d - h) * hid f + closest y (2 ^ d)) (ones f * hid f) in
    let at : (v x : ℕ) → 0 < v → Sticky v x y → round f s (x * 2 ^ g) (v * 2 ^ h) ≡ of_bits f (cond s (top f) 0 + pattern) =
    λ v x p t.
    round_word f s v x y g h (g + low f + d - h) d p (two_more (size y) (prec f) many) (scales g (low f) d h (two_more (size y) (prec f) many) u) t
    (subst (λ (a : ℕ). y < 2 ^ a) (whole (size y) (prec f) many) (size-lt y)) (inr (size_reaches y (prec f - 1 + d) (below (size y) (prec f) many (two f)))) in
    at v x p t ∙ sym (at 1 y (zero-lt-suc 0) (inl (sym (mul-one y)))) ∙ ap (round f s (y * 2 ^ g)) (one-mul (2 ^ h))
  where
    two_more : (z p : ℕ) → suc p < z → 2 ≤ z - p
    two_more z p h = omega arith

    scales : (g l d h : ℕ) → 2 ≤ d → h ≤ g + l + 2 → g + l + d ≡ h + (g + l + d - h)
    scales g l d h a b = omega arith

    whole : (z p : ℕ) → suc p < z → z ≡ p + (z - p)
    whole z p h = omega arith

    below : (z p : ℕ) → suc p < z → 2 ≤ p → p - 1 + (z - p) < z
    below z p h k = omega arith

-- Where the second term outweighs a first one that is sticky, the sum rounds as that of what it stands for.
pub sum_sticky : (f : Format) (s t : Bool) (v p q c e h : ℕ) → 0 < v → Sticky v p q → c % 2 ≡ 0 → 2 ^ suc (prec f) + q ≤ c → h ≤ e + low f + 2
    → sum f s (q * 2 ^ e) t (c * 2 ^ e) (2 ^ h) ≡ sum f s (p * 2 ^ e) t (c * v * 2 ^ e) (v * 2 ^ h)
sum_sticky f s t v p q c e h v-pos sticky even big scale =
    by_signs (λ (s t : Bool). sum f s (q * 2 ^ e) t (c * 2 ^ e) (2 ^ h) ≡ sum f s (p * 2 ^ e) t (c * v * 2 ^ e) (v * 2 ^ h)) like other s t
  where
    less : q < c
    less = lt_of_lt_of_le (grown (2 ^ suc (prec f)) q (pow_pos (suc (prec f)))) big
      where
        grown : (w q : ℕ) → 0 < w → q < w + q
        grown w q a = omega arith

    like : (s : Bool) → sum f s (q * 2 ^ e) s (c * 2 ^ e) (2 ^ h) ≡ sum f s (p * 2 ^ e) s (c * v * 2 ^ e) (v * 2 ^ h)
    like s =
        like_times f s q c (2 ^ e) (2 ^ h)
        ∙ sym (round_sticky f s v (p + c * v) (q + c) e h v-pos (subst₂ (Sticky v) (add_comm (c * v) p) (add_comm c q) (sticky_add v c p q even sticky))
        (le_trans (le-add_right (2 ^ suc (prec f)) q) (le_trans big (le-add_left c q))) scale)
        ∙ sym (like_times f s p (c * v) (2 ^ e) (v * 2 ^ h))

    other : (s : Bool) → sum f s (q * 2 ^ e) (not s) (c * 2 ^ e) (2 ^ h) ≡ sum f s (p * 2 ^ e) (not s) (c * v * 2 ^ e) (v * 2 ^ h)
    other s =
        less_times f s q c (2 ^ e) (2 ^ h) (pow_pos e) less
        ∙ sym (round_sticky f (not s) v (c * v - p) (c - q) e h v-pos (sticky_from v c p q even (le_of_lt less) sticky) (left (2 ^ suc (prec f)) q c big) scale)
        ∙ sym (less_times f s p (c * v) (2 ^ e) (v * 2 ^ h) (pow_pos e) (sticky_below v p q c v-pos less sticky))
      where
        left : (w q c : ℕ) → w + q ≤ c → w ≤ c - q
        left w q c h = omega arith
