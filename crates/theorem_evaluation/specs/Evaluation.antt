-- The evaluation of whole numbers is exact at both ends of a segment: document 01 asks for the evaluation "with exact whole-number cases". For the orders 3, 5
-- and 7 alike, fused steps and general loop, for the position and the first three derivatives in segment units, of coefficients that are whole and within 2^40.
-- Proved by `whole_numbers_evaluate_exactly` of proofs/Evaluation.antt. Assumes nothing.
use Rattle.std.specs.Prelude.{◌≡◌, List, ℕ, ◌+◌, ◌≤◌, T, ℤ, pos, ◌*ℤ◌, length, Float}
use Rattle.law_rounding.specs.Whole.{is_whole, whole_of}
use Rattle.rules.specs.Floats.{◌!◌, +0, +1}
use Rattle.law_lists.specs.Lists.{all}
use Rattle.rules.specs.Build.{valid_order}
use Rattle.rules.specs.Master.{sumℤ}
use Rattle.rules.specs.Query.{derivative_factor, eval_poly}
use Rattle.theorem_exact.specs.Exact.{whole_within}

-- the float x is the whole number z; either zero is 0
pub record IsNumber (x : Float) (z : ℤ) : Type 0 where
  pub whole : T (is_whole x)
  pub number : whole_of x ≡ z

-- Derivative k of the n coefficients c over whole numbers, at tau 0 and at tau 1. (Of coefficients below k the factor is 0.)
unfoldable pub derivative_at0 : (ℕ → ℤ) → ℕ → ℤ
derivative_at0 c k = pos (derivative_factor k k) *ℤ c k

unfoldable pub derivative_at1 : ℕ → (ℕ → ℤ) → ℕ → ℤ
derivative_at1 n c k = sumℤ n (λ j. pos (derivative_factor j k) *ℤ c j)

-- what holds of a segment's coefficients a
pub record ExactAtEnds (order : ℕ) (a : List Float) (k : ℕ) : Type 0 where
  pub at0 : IsNumber (eval_poly order a +0 k) (derivative_at0 (λ j. whole_of (a ! j)) k)
  pub at1 : IsNumber (eval_poly order a +1 k) (derivative_at1 (order + 1) (λ j. whole_of (a ! j)) k)

-- F2: the theorem
unfoldable pub WholeNumbersEvaluateExactly : Type 0
WholeNumbersEvaluateExactly =
    (order : ℕ) (a : List Float) (k : ℕ) → T (valid_order order) → length a ≡ order + 1 → T (all whole_within a) → k ≤ 3 → ExactAtEnds order a k
