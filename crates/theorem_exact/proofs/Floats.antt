-- A segment's coefficients, computed in floats from whole numbers within 2^40, are whole numbers: the forms of Tables.antt. No product is beyond 2^48, so
-- no sum of up to 32 of them is beyond 2^53, and a segment of order 7 has sums of 7. Assumes nothing.
use mathlib.Core.Path.{◌≡◌, refl, sym, ap, ap₂, ◌∙◌, subst, subst₂}
use mathlib.Core.Bool.{Bool, true, false, not, cond}
use mathlib.Core.List.{List, [], ◌∷◌, ◌++◌, map}
use Prim.Native.Nat.{ℕ, zero, suc, ◌+◌, ◌-◌, ◌*◌, ◌^◌, ◌<◌, ◌≤◌}
use native.Mathlib.Nat.{le_trans, one-mul, suc-mul}
use native.Mathlib.Omega.{arith}
use lib.Dec.{T, leb, ltb, leb→le, ltb→lt, nltb→le, lit≤}
use lib.IntN.{ℤ, pos, nat_abs, ◌+ℤ◌, ◌-ℤ◌, ◌*ℤ◌, +ℤ_idl, zero-*ℤ}
use lib.ListN.{length, length-map, get_or-append, get_or-map}
use lib.Seq.{get_or-append-add}
use lib.Ieee.{Float, binary64}
use lib.Ieee.Fits.{and_l, and_r}
use Rattle.law_rounding.specs.Whole.{is_whole, whole_of}
use Rattle.law_rounding.proofs.Whole.{HasWhole, has_whole, of_int_whole, Within, within_add, within_sub, within_mul}
use Rattle.rules.specs.Floats.{◌⊖◌, ◌⊗◌, ◌!◌, +0, of_ints, sum_of}
use Rattle.law_lists.specs.Lists.{all, listed}
use Rattle.rules.specs.Tables.{for_order}
use Rattle.rules.specs.Build.{upper_coefficient, segment_coefficients}
use Rattle.rules.specs.Master.{within, at, sumℤ}
use Rattle.law_lists.proofs.Lists.{all_at}
use Rattle.law_lists.proofs.Filling.{listed_at}
use Rattle.theorem_exact.specs.Exact.{whole_within}
use Rattle.theorem_exact.proofs.Sums.{form, unit, form_unit, sum_same, sum_split}
use Rattle.theorem_exact.proofs.Tables.{upper_form, coefficient_form, small_entries, TableFacts}
use Rattle.theorem_exact.proofs.Segment.{numbers, number_left, number_right}

-- ---- whole numbers within a bound

-- what the test of a number says
pub within_test : (x : Float) → T (whole_within x) → Within (2 ^ 40) x (whole_of x)
unfolding whole_within within
within_test x t = record { whole = has_whole x (and_l (is_whole x) _ t); bound = leb→le _ _ (and_r (is_whole x) _ t) }

pub none : HasWhole +0 (pos 0)
none = record { sign = false; size = 0; value = (refl, refl); number = refl }

pub zero_within : T (whole_within +0)
unfolding whole_within within is_whole whole_of
zero_within = tt

within_at : (xs : List Float) → T (all whole_within xs) → (i : ℕ) → Within (2 ^ 40) (xs ! i) (at (map whole_of xs) i)
unfolding whole_of
within_at xs t i = subst (Within (2 ^ 40) (xs ! i)) (sym (get_or-map whole_of xs i +0)) (within_test (xs ! i) (all_at whole_within xs +0 zero_within t i))

-- an entry of a table
within_entry : (n : ℕ) → n ≤ 2 ^ 53 → (zs : List ℤ) → T (all (λ z. leb (nat_abs z) n) zs) → (i : ℕ) → Within n (of_ints zs ! i) (at zs i)
unfolding all
within_entry n h [] t i = record { whole = none; bound = omega arith }
within_entry n h (z ∷ zs) t zero =
    let most : nat_abs z ≤ n = leb→le _ _ (and_l (leb (nat_abs z) n) _ t) in
    record { whole = of_int_whole binary64 z (le_trans most h); bound = most }
within_entry n h (z ∷ zs) t (suc i) = within_entry n h zs (and_r (leb (nat_abs z) n) _ t) i

within_sum : (c n : ℕ) (f : ℕ → Float) (g : ℕ → ℤ) → n * c ≤ 2 ^ 53 → ((i : ℕ) → i < n → Within c (f i) (g i)) → Within (n * c) (sum_of n f) (sumℤ n g)
unfolding sum_of sumℤ
within_sum c zero f g h each = record { whole = none; bound = omega arith }
within_sum c (suc zero) f g h each = rw (one-mul, +ℤ_idl) (each 0 (omega arith))
within_sum c (suc (suc n)) f g h each =
    let room : suc n * c + c ≤ 2 ^ 53 = rw suc-mul at h in
    rw suc-mul (within_add binary64 room (within_sum c (suc n) f g (omega arith) (λ i l. each i (omega arith))) (each (suc n) (omega arith)))

-- ---- the upper coefficients

-- the form of an upper coefficient, summed as the rules sum it
module _ (m i : ℕ) (y d : ℤ) (left right : List ℤ) (full : length left ≡ m) where
  abbrev x : ℕ → ℤ
  x = numbers y d left right

  abbrev h : ℕ → ℤ
  h l = at (for_order m).h (i * (1 + 2 * m) + l)

  abbrev term : ℕ → ℤ
  term l = upper_form m i l *ℤ x l

  term_is : (l k n : ℕ) (z : ℤ) → k ≡ suc l → k ≡ n → x n ≡ z → term k ≡ h l *ℤ z
  unfolding upper_form
  term_is l k n z e e' is = ap term e ∙ ap (λ (z : ℤ). h l *ℤ z) (ap x (sym e ∙ e') ∙ is)

  first_two : sumℤ 2 term ≡ h 0 *ℤ d
  unfolding sumℤ upper_form
  first_two = ap (λ (z : ℤ). pos 0 +ℤ z +ℤ term 1) (zero-*ℤ y) ∙ +ℤ_idl (term 1)

  upper_form_lem : form (2 * m + 2) (upper_form m i) x ≡ h 0 *ℤ d +ℤ sumℤ m (λ j. h (1 + j) *ℤ at left j) +ℤ sumℤ m (λ j. h (1 + m + j) *ℤ at right j)
  unfolding form
  upper_form_lem =
      ap (λ (n : ℕ). sumℤ n term) (two_more m)
      ∙ sum_split (2 + m) m term
      ∙ ap₂ ◌+ℤ◌
      (sum_split 2 m term
      ∙ ap₂ ◌+ℤ◌ first_two
      (sum_same m _ _ (λ j l. term_is (1 + j) (2 + j) (suc (suc j)) _ (omega arith) (omega arith) (number_left m y d left right full j l))))
      (sum_same m _ _ (λ j l. term_is (1 + m + j) (2 + m + j) (suc (suc (m + j))) _ (omega arith) (omega arith) (number_right m y d left right full j)))
    where
      two_more : (m : ℕ) → 2 * m + 2 ≡ 2 + m + m
      two_more m = omega arith

-- ---- a segment

module _ (m : ℕ) (facts : TableFacts m) (u v : Float) (left right : List Float) (full : length left ≡ m)
    (tu : T (whole_within u)) (tv : T (whole_within v)) (tl : T (all whole_within left)) (tr : T (all whole_within right)) where
  abbrev dyℤ : ℤ
  dyℤ = whole_of v -ℤ whole_of u

  abbrev leftℤ : List ℤ
  leftℤ = map whole_of left

  abbrev xs : ℕ → ℤ
  xs = numbers (whole_of u) dyℤ leftℤ (map whole_of right)

  fullℤ : length leftℤ ≡ m
  fullℤ = length-map left whole_of ∙ full

  entry_within : (l : ℕ) → Within 128 (of_ints (for_order m).h ! l) (at (for_order m).h l)
  unfolding small_entries
  entry_within = within_entry 128 (lit≤ tt) (for_order m).h facts.small

  -- an entry of H times a number of a node
  product : (n : Float) (z : ℤ) (l : ℕ) → Within (2 ^ 40) n z → Within (128 * 2 ^ 40) (of_ints (for_order m).h ! l ⊗ n) (at (for_order m).h l *ℤ z)
  product n z l w = within_mul binary64 {a = 128} {b = 2 ^ 40} (lit≤ tt) (entry_within l) w

  upper_whole : (i : ℕ) → HasWhole (upper_coefficient m (v ⊖ u) left right i) (form (2 * m + 2) (upper_form m i) xs)
  unfolding upper_coefficient
  upper_whole i =
      let few : m ≤ 3 = leb→le m 3 facts.few in
      let row : ℕ → ℕ = λ l. i * (1 + 2 * m) + l in
      let d = within_sub binary64 {a = 2 ^ 40} {b = 2 ^ 40} (lit≤ tt) (within_test v tv) (within_test u tu) in
      let first = within_mul binary64 {a = 128} {b = 2 ^ 41} (lit≤ tt) (entry_within (row 0)) d in
      let p = within_sum (128 * 2 ^ 40) m _ _ (omega arith) (λ j l. product _ _ (row (1 + j)) (within_at left tl j)) in
      let q = within_sum (128 * 2 ^ 40) m _ _ (omega arith) (λ j l. product _ _ (row (1 + m + j)) (within_at right tr j)) in
      subst (HasWhole _) (sym (upper_form_lem m i (whole_of u) dyℤ leftℤ (map whole_of right) fullℤ))
      (within_add binary64 (omega arith) (within_add binary64 (omega arith) first p) q).whole

  pub segment_whole : (k : ℕ) → k < 2 * m + 2 → HasWhole (segment_coefficients m u (v ⊖ u) left right ! k) (form (2 * m + 2) (coefficient_form m k) xs)
  unfolding segment_coefficients coefficient_form
  segment_whole zero l = subst (HasWhole u) (sym (form_unit (2 * m + 2) xs 0 l)) (within_test u tu).whole
  segment_whole (suc k) l = go (ltb k m) (ltb→lt k m) (nltb→le k m)
    where
      upper : ℕ → Float
      upper = upper_coefficient m (v ⊖ u) left right

      go : (t : Bool) → (T t → k < m) → (T (not t) → m ≤ k)
          → HasWhole ((left ++ listed (m + 1) upper) ! k) (form (2 * m + 2) (cond t (unit (suc (suc k))) (upper_form m (k - m))) xs)
      go true below above =
          let h : k < m = below tt in
          subst₂ HasWhole (sym (get_or-append left (listed (m + 1) upper) +0 k (rw full h)))
          (sym (form_unit (2 * m + 2) xs (suc (suc k)) (omega arith) ∙ number_left m (whole_of u) dyℤ leftℤ (map whole_of right) fullℤ k h))
          (within_at left tl k).whole
      go false below above =
          let h : m ≤ k = above tt in
          let place : k ≡ length left + (k - m) = omega arith in
          subst (λ (a : Float). HasWhole a (form (2 * m + 2) (upper_form m (k - m)) xs))
          (sym (ap (λ (n : ℕ). (left ++ listed (m + 1) upper) ! n) place
          ∙ get_or-append-add left (listed (m + 1) upper) (k - m) +0
          ∙ listed_at +0 (m + 1) upper (k - m) (omega arith)))
          (upper_whole (k - m))
