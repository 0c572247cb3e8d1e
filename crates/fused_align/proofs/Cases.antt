-- The sum of two placed numbers, one of them shifted with a sticky last bit: what the branches of `aligned` come to. Assumes nothing.
use mathlib.Core.Path.{◌≡◌, refl, sym, ap, ◌∙◌, subst}
use mathlib.Core.Logic.{inl, inr}
use Prim.Native.Nat.{ℕ, zero, suc, ◌+◌, ◌-◌, ◌*◌, ◌%◌, ◌^◌, ◌≤◌, ◌<◌}
use native.Mathlib.Nat.{le_of_lt, le_trans, lt_of_lt_of_le, lt_of_le_of_lt, mul_assoc, mul_comm, mul-lt-mul_of_pos_right, le-add_right}
use native.Mathlib.Nat.{mul-le-mul_left}
use native.Mathlib.Omega.{arith}
use mathlib.Core.Bool.{Bool, false, not}
use lib.Dec.{lit≤}
use lib.IntN.{pos}
use lib.Pow.{pow-add, pow_pos, pow_mono}
use lib.Ieee.{Float, fin, binary64, round, of_bits}
use lib.Ieee as Ieee
use Rattle.law_rounding.specs.Sticky.{Sticky}
use Rattle.law_rounding.proofs.Numbers.{less_or_not, sub_mul}
use Rattle.law_rounding.proofs.Sticky.{sticky_add, sticky_from, sticky_less, sticky_below, sticky_above}
use Rattle.law_rounding.proofs.Sums.{like_times, more_times, less_times, sum_none}
use Rattle.law_rounding.proofs.Values.{round_move, round_zero}
use Rattle.fused_pack.specs.Rounds.{Rounds}
use Rattle.fused_align.specs.Placed.{Placed}
use Rattle.fused_words.specs.declared.Words.{Words}
use Rattle.fused_words.specs.Words.{value}
use Rattle.fused_words.proofs.Carry.{high_lt}

-- ---- a shift of less than three loses nothing of a multiple of four

small_exact : (S J d : ℕ) → d < 3 → S % 4 ≡ 0 → Sticky (2 ^ d) S J → S ≡ J * 2 ^ d
small_exact S J d l e (inl g) = g
small_exact S J zero l e (inr (o, f, g)) = omega arith
small_exact S J (suc zero) l e (inr (o, f, g)) = omega arith
small_exact S J (suc (suc zero)) l e (inr (o, f, g)) = omega arith
small_exact S J (suc (suc (suc d))) l e (inr (o, f, g)) = absurd (none d l)
  where
    none : (d : ℕ) → suc (suc (suc d)) < 3 → ⊥
    none d h = omega arith

-- A greater shift leaves less than half of what the other has, whatever number k stands for 2 ^ 122.
large_apart : (k S J d : ℕ) → 3 ≤ d → S < 16 * k → Sticky (2 ^ d) S J → J ≤ 2 * k + 1
large_apart k S J d l u t = elim (less_or_not J (2 * k + 2)) [
  | inl h ↦ omega arith
  | inr g ↦
      let a : (2 * k + 2) * 2 ^ d ≤ S = sticky_above (2 ^ d) S J (2 * k + 2) (even k) g t in
      let b : (2 * k + 2) * 8 ≤ (2 * k + 2) * 2 ^ d = mul-le-mul_left (2 * k + 2) (pow_mono l) in
      absurd (apart k S ((2 * k + 2) * 2 ^ d) a b u)
]
  where
    even : (k : ℕ) → (2 * k + 2) % 2 ≡ 0
    even k = omega arith

    apart : (k S m : ℕ) → m ≤ S → (2 * k + 2) * 8 ≤ m → S < 16 * k → ⊥
    apart k S m a b u = omega arith

near_exact : (k B S J d : ℕ) → 2 ^ 66 ≤ k → 4 * k ≤ B → S < 16 * k → S % 4 ≡ 0 → Sticky (2 ^ d) S J → B < J + 2 ^ 65 → S ≡ J * 2 ^ d
near_exact k B S J d K b u e t n = elim (less_or_not d 3) [
  | inl l ↦ small_exact S J d l e t
  | inr g ↦ absurd (apart k B J K b (large_apart k S J d g u t) n)
]
  where
    apart : (k B J : ℕ) → 2 ^ 66 ≤ k → 4 * k ≤ B → J ≤ 2 * k + 1 → B < J + 2 ^ 65 → ⊥
    apart k B J a b c d = omega arith

-- where the greater exponent is u, the other one e, and the shift between them d
module _ (B S J d e u : ℕ) (apart : e + d ≡ u) (pb : Placed B) (ps : Placed S) (t : Sticky (2 ^ d) S J) where
  even : (n : ℕ) → n % 4 ≡ 0 → n % 2 ≡ 0
  even n h = omega arith

  exact : B < J + 2 ^ 65 → S ≡ J * 2 ^ d
  exact h = near_exact (2 ^ 122) B S J d (lit≤ tt) pb.0 ps.1 ps.2 t h

  -- the exact sum, over 2 ^ d
  scaled : (s : Bool) (x : ℕ) → round binary64 s (x * 2 ^ u) (2 ^ d * 2 ^ 2272) ≡ round binary64 s (x * 2 ^ e) (2 ^ 2272)
  scaled s x = ap (round binary64 s (x * 2 ^ u)) (sym (pow-add 2 d 2272)) ∙ round_move binary64 s x u (d + 2272) e 2272 (omega arith)

  joined : B * 2 ^ d * 2 ^ e ≡ B * 2 ^ u
  joined = mul_assoc B (2 ^ d) (2 ^ e) ∙ ap (λ (a : ℕ). B * a) (mul_comm (2 ^ d) (2 ^ e) ∙ sym (pow-add 2 e d) ∙ ap (λ (a : ℕ). 2 ^ a) apart)

  big : (s r : Bool) → Ieee.sum binary64 s (B * 2 ^ d * 2 ^ e) r (S * 2 ^ e) (2 ^ 2272) ≡ Ieee.sum binary64 s (B * 2 ^ u) r (S * 2 ^ e) (2 ^ 2272)
  big s r = ap (λ (n : ℕ). Ieee.sum binary64 s n r (S * 2 ^ e) (2 ^ 2272)) joined

  pub like : (s : Bool) (w : Words) (r : Float) → w.low < 2 ^ 64 → value w ≡ B + J → Rounds (record { negative = s; words = w; exponent = u }) r
      → r ≡ Ieee.sum binary64 s (B * 2 ^ u) s (S * 2 ^ e) (2 ^ 2272)
  like s w r a y k =
      k (2 ^ d) (B * 2 ^ d + S) (pow_pos d) (subst (Sticky (2 ^ d) (B * 2 ^ d + S)) (sym y) (sticky_add (2 ^ d) B S J (even B pb.2) t))
      (λ z. absurd (not_short w.high w.low (B + J) a y (le_trans (le_trans (lit≤ tt) pb.0) (le-add_right B J)) z))
      ∙ scaled s (B * 2 ^ d + S)
      ∙ sym (like_times binary64 s (B * 2 ^ d) S (2 ^ e) (2 ^ 2272))
      ∙ big s s
    where
      -- two words that hold much have a high one
      not_short : (h l y : ℕ) → l < 2 ^ 64 → h * 2 ^ 64 + l ≡ y → 2 ^ 64 ≤ y → h ≡ 0 → ⊥
      not_short h l y a b c z = omega arith

  -- where the two words are one, all is exact
  one_word : (w : Words) (y x m : ℕ) → value w ≡ y → x ≡ y * m → w.high ≡ 0 → x ≡ w.low * m
  one_word w y x m a b z = b ∙ ap (λ (n : ℕ). n * m) (omega (arith, a, z))

  pub more : (s : Bool) (w : Words) (r : Float) → w.low < 2 ^ 64 → J < B → value w ≡ B - J → Rounds (record { negative = s; words = w; exponent = u }) r
      → r ≡ Ieee.sum binary64 s (B * 2 ^ u) (not s) (S * 2 ^ e) (2 ^ 2272)
  more s w r a j y k =
      k (2 ^ d) (B * 2 ^ d - S) (pow_pos d) (subst (Sticky (2 ^ d) (B * 2 ^ d - S)) (sym y) (sticky_from (2 ^ d) B S J (even B pb.2) (le_of_lt j) t))
      (λ z. one_word w (B - J) (B * 2 ^ d - S) (2 ^ d) y
      (ap (λ (n : ℕ). B * 2 ^ d - n) (exact (near w.high w.low B J a y z)) ∙ sym (sub_mul B J (2 ^ d))) z)
      ∙ scaled s (B * 2 ^ d - S)
      ∙ sym (more_times binary64 s (B * 2 ^ d) S (2 ^ e) (2 ^ 2272) (pow_pos e) (sticky_below (2 ^ d) S J B (pow_pos d) j t))
      ∙ big s (not s)
    where
      near : (h l B J : ℕ) → l < 2 ^ 64 → h * 2 ^ 64 + l ≡ B - J → h ≡ 0 → B < J + 2 ^ 65
      near h l B J a y z = omega arith

  pub fewer : (s : Bool) (w : Words) (r : Float) → B < J → value w ≡ J - B → Rounds (record { negative = not s; words = w; exponent = u }) r
      → r ≡ Ieee.sum binary64 s (B * 2 ^ u) (not s) (S * 2 ^ e) (2 ^ 2272)
  fewer s w r j y k =
      let x : S ≡ J * 2 ^ d = exact (near B J j) in
      k (2 ^ d) (S - B * 2 ^ d) (pow_pos d) (subst (Sticky (2 ^ d) (S - B * 2 ^ d)) (sym y) (sticky_less (2 ^ d) B S J (even B pb.2) (le_of_lt j) t))
      (λ z. one_word w (J - B) (S - B * 2 ^ d) (2 ^ d) y (ap (λ (n : ℕ). n - B * 2 ^ d) x ∙ sym (sub_mul J B (2 ^ d))) z)
      ∙ scaled (not s) (S - B * 2 ^ d)
      ∙ sym
      (less_times binary64 s (B * 2 ^ d) S (2 ^ e) (2 ^ 2272) (pow_pos e) (subst (λ (n : ℕ). B * 2 ^ d < n) (sym x) (mul-lt-mul_of_pos_right j (pow_pos d))))
      ∙ big s (not s)
    where
      near : (B J : ℕ) → B < J → B < J + 2 ^ 65
      near B J j = omega arith

  pub none : (s : Bool) → B ≡ J → fin false 0 (pos 0) ≡ Ieee.sum binary64 s (B * 2 ^ u) (not s) (S * 2 ^ e) (2 ^ 2272)
  none s j =
      sym
      (ap (λ (n : ℕ). Ieee.sum binary64 s (B * 2 ^ u) (not s) n (2 ^ 2272))
      (ap (λ (n : ℕ). n * 2 ^ e) (exact (near B J j) ∙ ap (λ (n : ℕ). n * 2 ^ d) (sym j)) ∙ joined)
      ∙ sum_none binary64 s (B * 2 ^ u) (2 ^ 2272)
      ∙ round_zero binary64 false (2 ^ 2272))
    where
      near : (B J : ℕ) → B ≡ J → B < J + 2 ^ 65
      near B J j = omega arith

-- ---- what the calls ask: room for a sum (`Words::sum`), and a number that is not 0 (`Term::rounded`)

pub high_room : (bh bl jh jl s : ℕ) → bh * 2 ^ 64 + bl < 2 ^ 126 → s < 2 ^ 126 → jh * 2 ^ 64 + jl ≤ s → bh + jh < 2 ^ 63
high_room bh bl jh jl s p q l = sum_lt bh jh (high_lt bh bl (bh * 2 ^ 64 + bl) 62 refl p) (high_lt jh jl (jh * 2 ^ 64 + jl) 62 refl (lt_of_le_of_lt l q))
  where
    sum_lt : (a b : ℕ) → a < 2 ^ 62 → b < 2 ^ 62 → a + b < 2 ^ 63
    sum_lt a b p q = omega arith

pub some : (h l y : ℕ) → h * 2 ^ 64 + l ≡ y → 0 < y → 0 < h + l
some h l y e p = omega arith

pub sum_pos : (a b : ℕ) → 2 ^ 124 ≤ a → 0 < a + b
sum_pos a b h = lt_of_lt_of_le (lt_of_lt_of_le (pow_pos 124) h) (le-add_right a b)

pub difference_pos : (a b : ℕ) → b < a → 0 < a - b
difference_pos a b h = omega arith

pub zero_is : of_bits binary64 0 ≡ fin false 0 (pos 0)
unfolding of_bits
zero_is = refl
