-- The evaluation of whole numbers within 2^40 is exact at tau 0 and at tau 1: every step is, because no number that occurs is beyond 2^53. Assumes nothing.
use mathlib.Core.Path.{◌≡◌, refl, ap, ◌∙◌, subst}
use mathlib.Core.Bool.{Bool, true, false, cond}
use mathlib.Core.List.{List, [], ◌∷◌}
use Prim.Native.Nat.{ℕ, zero, suc, ◌+◌, ◌-◌, ◌*◌, ◌^◌, ◌<◌, ◌≤◌}
use native.Mathlib.Nat.{le_trans, mul-one, mul-zero, zero-mul, one-mul, mul-le-mul}
use native.Mathlib.Omega.{arith}
use lib.Dec.{T, leb, eqb, eqb→eq, leb→le, lit≤}
use lib.IntN.{ℤ, pos, nat_abs, ◌+ℤ◌, ◌*ℤ◌, +ℤ_idl, +ℤ_idr, zero-*ℤ, *ℤ-zero, one, *ℤ-one}
use lib.ListN.{length}
use lib.Ieee.{Float, nan, inf, fin, binary64, unlike}
use Rattle.law_integers.specs.Signs.{signed}
use Rattle.law_integers.proofs.Laws.{one-*ℤ, nat_abs-*ℤ}
use Rattle.law_rounding.specs.Whole.{whole_of}
use Rattle.law_rounding.proofs.Whole.{HasWhole, whole_test, whole_number, of_int_whole, mul_whole, Within, within_add, within_mul}
use Rattle.rules.specs.Floats.{◌⊕◌, ◌⊗◌, ◌!◌, +0, +1, of_count}
use Rattle.rules.specs.Fused.{exact_product, fused}
use Rattle.law_lists.specs.Lists.{all, every, listed}
use Rattle.rules.specs.Build.{valid_order}
use Rattle.rules.specs.Query.{derivative_factor, term, fused_steps, fused_derivative, general_loop, loop_derivative, eval_poly}
use Rattle.law_lists.proofs.Lists.{all_at, every_at, length-listed}
use Rattle.law_lists.proofs.Filling.{listed_at}
use Rattle.rules.proofs.Build.{by_order}
use Rattle.theorem_exact.specs.Exact.{whole_within}
use Rattle.theorem_evaluation.specs.Evaluation.{IsNumber, derivative_at0, derivative_at1, WholeNumbersEvaluateExactly}
use Rattle.theorem_exact.proofs.Floats.{none, within_test, zero_within}
use Rattle.theorem_evaluation.proofs.Derivatives.{derived, derived_at0, derived_at1, factored, factored_at0, factored_at1}

-- ---- tau 0 and tau 1

-- t is the whole number w, 0 or 1, and an exact product with it is a product with w
record End (t : Float) (w : ℤ) : Type 0 where
  pub whole : HasWhole t w
  pub small : nat_abs w ≤ 1
  pub product : (x : Float) {z : ℤ} → HasWhole x z → HasWhole (exact_product x t) (z *ℤ w)

times0 : (x : Float) {z : ℤ} → HasWhole x z → HasWhole (exact_product x +0) (pos 0)
unfolding exact_product
times0 nan p = absurd p.value
times0 (inf s) p = absurd p.value
times0 (fin s m e) p = record { sign = unlike s false; size = 0; value = (refl, simp (mul-zero, zero-mul)); number = either (unlike s false) }
  where
    either : (s : Bool) → signed s 0 ≡ pos 0
    either false = refl
    either true = refl

times1 : (x : Float) → exact_product x +1 ≡ x
unfolding exact_product
times1 nan = refl
times1 (inf true) = refl
times1 (inf false) = refl
times1 (fin true m e) = rw (mul-one, +ℤ_idr)
times1 (fin false m e) = rw (mul-one, +ℤ_idr)

end0 : End +0 (pos 0)
end0 = record { whole = none; small = omega arith; product = λ x {z} p. rw *ℤ-zero (times0 x p) }

end1 : End +1 (pos 1)
unfolding one
end1 = record {
  whole = record { sign = false; size = 1; value = (refl, refl); number = refl };
  small = omega arith;
  product = λ x {z} p. rw (times1, *ℤ-one) p;
}

-- ---- bounds

-- how large derivative k of n numbers may be at 0 and at 1, the numbers being no larger than c
unfoldable most : ℕ → ℕ → ℕ → ℕ
most c k zero = 0
most c zero (suc n) = most c zero n + c
most c (suc k) (suc n) = most c (suc k) n + suc k * most c k n

-- numbers found small by computing
small_at : (f : ℕ → ℕ → ℕ) (c n m : ℕ) → T (every n (λ k. every m (λ j. leb (f k j) c))) → (k j : ℕ) → k < n → j < m → f k j ≤ c
small_at f c n m t k j h l = leb→le (f k j) c (every_at m (λ j. leb (f k j) c) (every_at n (λ k. every m (λ j. leb (f k j) c)) t k h) j l)

-- at order 7, by the general loop
loop_room : (k n : ℕ) → k < 4 → n < 9 → most (2 ^ 40) k n ≤ 2 ^ 53
unfolding most every
loop_room = small_at (most (2 ^ 40)) (2 ^ 53) 4 9 tt

-- at the orders 3 and 5, by fused steps: the factors, and the numbers found
factor_room : (k j : ℕ) → k < 4 → j < 6 → derivative_factor j k ≤ 64
unfolding derivative_factor every
factor_room = small_at (λ k j. derivative_factor j k) 64 4 6 tt

fused_room : (n : ℕ) → n < 7 → most (64 * 2 ^ 40) 0 n ≤ 2 ^ 53
unfolding most every
fused_room n = small_at (most (64 * 2 ^ 40)) (2 ^ 53) 1 7 tt 0 n (omega arith)

-- ---- the steps

-- a count no larger than m, times a number
times : {n : ℕ} {x : Float} {p : ℤ} (k m : ℕ) → k ≤ m → m ≤ 2 ^ 53 → m * n ≤ 2 ^ 53 → Within n x p → Within (m * n) (of_count k ⊗ x) (pos k *ℤ p)
times k m h l room v = within_mul binary64 room (record { whole = of_int_whole binary64 (pos k) (le_trans h l); bound = h }) v

module _ {t : Float} {w : ℤ} (end : End t w) where
  bound : {n : ℕ} (p : ℤ) → nat_abs p ≤ n → nat_abs (p *ℤ w) ≤ n
  bound p h = rw (← nat_abs-*ℤ p w, mul-one) at (mul-le-mul h end.small)

  -- product and sum rounded once, and rounded apart
  once : {n c : ℕ} {x y : Float} {p q : ℤ} → n + c ≤ 2 ^ 53 → Within n x p → Within c y q → Within (n + c) (fused binary64 x t y) (p *ℤ w +ℤ q)
  unfolding fused
  once {x = x} {p = p} h u v = within_add binary64 h (record { whole = end.product x u.whole; bound = bound p u.bound }) v

  apart : {n c : ℕ} {x y : Float} {p q : ℤ} → n + c ≤ 2 ^ 53 → Within n x p → Within c y q → Within (n + c) (x ⊗ t ⊕ y) (p *ℤ w +ℤ q)
  apart {p = p} h u v =
      let product = bound p u.bound in
      within_add binary64 h (record { whole = mul_whole binary64 u.whole end.whole (le_trans product (omega arith)); bound = product }) v

  -- a derivative of a single coefficient
  nothing : (k : ℕ) → Within (0 + suc k * 0) +0 (pos 0 *ℤ w +ℤ pos (suc k) *ℤ pos 0)
  nothing k = rw (zero-*ℤ, mul-zero) (record { whole = none; bound = omega arith })

  fused_within : (xs : List Float) (f : ℕ → ℤ) → length xs < 7 → ((i : ℕ) → i < length xs → Within (64 * 2 ^ 40) (xs ! i) (f i))
      → Within (most (64 * 2 ^ 40) 0 (length xs)) (fused_steps t xs) (derived w 0 (length xs) f)
  unfolding fused_steps most derived
  fused_within [] f h each = record { whole = none; bound = omega arith }
  fused_within (x ∷ []) f h each = rw (zero-*ℤ, +ℤ_idl) (each 0 (omega arith))
  fused_within (x ∷ (y ∷ rest)) f h each =
      once (fused_room (length (x ∷ (y ∷ rest))) h)
      (fused_within (y ∷ rest) (λ j. f (suc j)) (omega arith) (λ i l. each (suc i) (omega arith)))
      (each 0 (omega arith))

  -- what the general loop finds of a list
  abbrev Found : List Float → (ℕ → ℤ) → ℕ → Type 0
  Found xs f k = Within (most (2 ^ 40) k (length xs)) (loop_derivative (general_loop t xs) k) (derived w k (length xs) f)

  loop_first : (x : Float) (f : ℕ → ℤ) → Within (2 ^ 40) x (f 0) → (k : ℕ) → Found (x ∷ []) f k
  unfolding general_loop loop_derivative most derived
  loop_first x f v zero = rw (zero-*ℤ, +ℤ_idl) v
  loop_first x f v (suc zero) = nothing 0
  loop_first x f v (suc (suc zero)) = nothing 1
  loop_first x f v (suc (suc (suc k))) = nothing (suc (suc k))

  loop_next : (x y : Float) (rest : List Float) (f : ℕ → ℤ) → length rest < 7 → Within (2 ^ 40) x (f 0)
      → ((k : ℕ) → k < 4 → Found (y ∷ rest) (λ j. f (suc j)) k)
      → (k : ℕ) → k < 4 → Found (x ∷ (y ∷ rest)) f k
  unfolding general_loop loop_derivative most derived
  loop_next x y rest f h v b k l = go k l (loop_room k (suc (suc (length rest))) l (omega arith))
    where
      go : (k : ℕ) → k < 4 → most (2 ^ 40) k (suc (suc (length rest))) ≤ 2 ^ 53 → Found (x ∷ (y ∷ rest)) f k
      go zero l room = apart room (b 0 l) v
      go (suc zero) l room = apart room (b 1 l) (rw (one-mul, one-*ℤ) (b 0 (omega arith)))
      go (suc (suc zero)) l room = apart room (b 2 l) (times 2 2 (lit≤ tt) (lit≤ tt) (omega arith) (b 1 (omega arith)))
      go (suc (suc (suc zero))) l room = apart room (b 3 l) (times 3 3 (lit≤ tt) (lit≤ tt) (omega arith) (b 2 (omega arith)))
      go (suc (suc (suc (suc k)))) l room = absurd (omega arith)

  loop_within : (xs : List Float) (f : ℕ → ℤ) → 0 < length xs → length xs < 9 → ((i : ℕ) → Within (2 ^ 40) (xs ! i) (f i)) → (k : ℕ) → k < 4 → Found xs f k
  loop_within [] f h h' each k l = absurd (omega arith)
  loop_within (x ∷ []) f h h' each k l = loop_first x f (each 0) k
  loop_within (x ∷ (y ∷ rest)) f h h' each k l =
      loop_next x y rest f (omega arith) (each 0) (loop_within (y ∷ rest) (λ j. f (suc j)) (omega arith) (omega arith) (λ i. each (suc i))) k l

-- ---- a segment

-- `z n c k` is derivative k of n coefficients c at w: by all of them as the general loop has it, and by its own as fused steps have it
record Value (w : ℤ) (z : ℕ → (ℕ → ℤ) → ℕ → ℤ) : Type 0 where
  pub all_of : (k n : ℕ) (c : ℕ → ℤ) → k < n → derived w k n c ≡ z n c k
  pub own : (k n : ℕ) (c : ℕ → ℤ) → 0 < n → derived w 0 n (factored k c) ≡ z (k + n) c k

value0 : Value (pos 0) (λ n. derivative_at0)
value0 = record { all_of = derived_at0; own = factored_at0 }

value1 : Value (pos 1) derivative_at1
value1 = record { all_of = λ k n c h. derived_at1 k n c; own = λ k n c h. factored_at1 k n c }

module _ (a : List Float) (all_within : T (all whole_within a)) where
  abbrev c : ℕ → ℤ
  c j = whole_of (a ! j)

  coefficient_within : (j : ℕ) → Within (2 ^ 40) (a ! j) (c j)
  coefficient_within j = within_test (a ! j) (all_at whole_within a +0 zero_within all_within j)

  term_within : (k j : ℕ) → k < 4 → j < 6 → Within (64 * 2 ^ 40) (term a k j) (pos (derivative_factor j k) *ℤ c j)
  unfolding term
  term_within k j h l = go (eqb (derivative_factor j k) 1) (eqb→eq (derivative_factor j k) 1)
    where
      go : (t : Bool) → (T t → derivative_factor j k ≡ 1)
          → Within (64 * 2 ^ 40) (cond t (a ! j) (of_count (derivative_factor j k) ⊗ a ! j)) (pos (derivative_factor j k) *ℤ c j)
      go true e = let v = coefficient_within j in rw (e tt, one-*ℤ) (record { whole = v.whole; bound = le_trans v.bound (lit≤ tt) })
      go false e = times (derivative_factor j k) 64 (factor_room k j h l) (lit≤ tt) (lit≤ tt) (coefficient_within j)

  module _ {t : Float} {w : ℤ} {z : ℕ → (ℕ → ℤ) → ℕ → ℤ} (end : End t w) (value : Value w z) (k : ℕ) (h : k < 4) where
    fused_is : (order : ℕ) → order < 6 → k ≤ order → HasWhole (fused_derivative order a t k) (z (order + 1) c k)
    unfolding fused_derivative factored
    fused_is order l l' =
        let n : ℕ = order + 1 - k in
        let terms : ℕ → Float = λ j. term a k (k + j) in
        let count : length (listed n terms) ≡ n = length-listed n terms in
        subst (HasWhole _) (ap (λ (m : ℕ). derived w 0 m (factored k c)) count ∙ value.own k n c (omega arith) ∙ ap (λ (m : ℕ). z m c k) (omega arith))
        (fused_within end (listed n terms) (factored k c) (omega arith)
        (λ i l''. rw (listed_at +0 n terms i (omega arith)) (term_within k (k + i) h (omega arith)))).whole

    loop_is : length a ≡ 8 → HasWhole (loop_derivative (general_loop t a) k) (z 8 c k)
    loop_is e =
        subst (HasWhole _) (ap (λ (m : ℕ). derived w k m c) e ∙ value.all_of k 8 c (omega arith))
        (loop_within end a c (omega arith) (omega arith) coefficient_within k h).whole

    evaluated : (order : ℕ) → T (valid_order order) → length a ≡ order + 1 → HasWhole (eval_poly order a t k) (z (order + 1) c k)
    unfolding eval_poly
    evaluated =
        by_order (λ (order : ℕ). length a ≡ order + 1 → HasWhole (eval_poly order a t k) (z (order + 1) c k))
        (λ e. fused_is 3 (omega arith) (omega arith)) (λ e. fused_is 5 (omega arith) (omega arith)) loop_is

is_number : (x : Float) {z : ℤ} → HasWhole x z → IsNumber x z
is_number x p = record { whole = whole_test x p; number = whole_number x p }

pub whole_numbers_evaluate_exactly : WholeNumbersEvaluateExactly
unfolding WholeNumbersEvaluateExactly
whole_numbers_evaluate_exactly order a k valid e all_within h = record {
  at0 = is_number _ (evaluated a all_within end0 value0 k (omega arith) order valid e);
  at1 = is_number _ (evaluated a all_within end1 value1 k (omega arith) order valid e);
}
