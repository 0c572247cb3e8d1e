-- A set to which the check says yes evaluates to what it was made from: by the evaluation in floats each segment starts and ends at its waypoints,
-- the first and the last have the states as derivatives there, and at a joint two segments agree. Nothing is rounded, for the orders 3, 5 and 7.
-- Proved by `masters_evaluate_exactly` and `two_points_evaluate_exactly` of proofs/Masters.antt. Assumes nothing.
use Rattle.std.specs.Prelude.{◌≡◌, List, ℕ, suc, ◌+◌, ◌*◌, ◌<◌, ◌≤◌, T, pos, ◌*ℤ◌, length, Float}
use Rattle.law_rounding.specs.Whole.{is_whole, whole_of}
use Rattle.rules.specs.Floats.{◌!◌, +0, +1}
use Rattle.law_lists.specs.Lists.{all}
use Rattle.rules.specs.Tables.{m_of}
use Rattle.rules.specs.Build.{BuildInput, build_number}
use Rattle.rules.specs.Master.{MasterSet, within, at, coefficient, segments, check_master}
use Rattle.rules.specs.Query.{derivative_factor, eval_poly}
use Rattle.theorem_builds.specs.Independent.{axis_part}
use Rattle.theorem_exact.specs.Exact.{WholeTwoPoints, axis_set}
use Rattle.theorem_evaluation.specs.Evaluation.{IsNumber}

-- the floats a are the coefficients of segment i of the set's table
pub record IsSegment (s : MasterSet) (i : ℕ) (a : List Float) : Type 0 where
  pub count : length a ≡ s.order + 1
  pub whole : T (all is_whole a)
  pub numbers : (j : ℕ) → j < s.order + 1 → whole_of (a ! j) ≡ coefficient (m_of s.order) s.table i j

-- Such a segment at tau 0 and tau 1. State number r of document 01 is at place r − 1 and is derivative r over r!.
pub record MeetsItsMaster (s : MasterSet) (i : ℕ) (a : List Float) : Type 0 where
  pub left : IsNumber (eval_poly s.order a +0 0) (at s.waypoints i)
  pub right : IsNumber (eval_poly s.order a +1 0) (at s.waypoints (suc i))
  pub start : i ≡ 0 → (r : ℕ) → r < m_of s.order
      → IsNumber (eval_poly s.order a +0 (suc r)) (pos (derivative_factor (suc r) (suc r)) *ℤ at s.start r)
  pub end : suc i ≡ segments s → (r : ℕ) → r < m_of s.order
      → IsNumber (eval_poly s.order a +1 (suc r)) (pos (derivative_factor (suc r) (suc r)) *ℤ at s.end r)
  pub joint : suc i < segments s → (b : List Float) → IsSegment s (suc i) b → (k : ℕ) → k ≤ 3 → k ≤ 2 * m_of s.order
      → whole_of (eval_poly s.order a +1 k) ≡ whole_of (eval_poly s.order b +0 k)

-- the theorem
unfoldable pub MastersEvaluateExactly : Type 0
MastersEvaluateExactly =
    (s : MasterSet) (i : ℕ) (a : List Float) → T (check_master s).good → i < segments s → IsSegment s i a → MeetsItsMaster s i a

-- And so does a two-point build of whole numbers, where its coefficients are within 2^40 too: what it was given is what its table evaluates to.
unfoldable pub TwoPointsEvaluateExactly : Type 0
TwoPointsEvaluateExactly =
    (b : BuildInput) (cells axis : ℕ) → build_number b cells ≡ 0 → WholeTwoPoints b → axis < b.axes → T (all within (axis_set b axis).table)
    → MeetsItsMaster (axis_set b axis) 0 (axis_part b axis)
