-- A query keeps the length of each buffer, whatever it is given: `keeps_length`. And it reads what a build wrote: the coefficients that it takes from a
-- table for a segment of an axis are that segment's, `read_back`. Assumes nothing.
use mathlib.Core.Path.{◌≡◌, refl, sym, ap₂, ◌∙◌, subst}
use mathlib.Core.Bool.{Bool, true, false, cond, not, ◌&&◌, ◌||◌}
use mathlib.Core.List.{List}
use Prim.Native.Nat.{ℕ, zero, suc, ◌+◌, ◌*◌, ◌-◌, ◌<◌, ◌≤◌}
use native.Mathlib.Omega.{arith}
use lib.Dec.{T, eqb, eqb→eq}
use lib.ListN.{length, take, drop}
use lib.Ieee.{Float}
use lib.Ieee.Fits.{and_l, and_r}
use Rattle.rules.specs.Floats.{◌!◌}
use Rattle.rules.specs.Tables.{m_of}
use Rattle.rules.specs.Build.{BuildInput, valid_order, accepted_record, dy, segment_coefficients}
use Rattle.rules.specs.Build.{node_numbers, axis_coefficients, axis_waypoints, axis_state, table}
use Rattle.rules.specs.Query.{QueryInput, Lengths, writes, valid_length, query_questions, path_questions}
use Rattle.rules.specs.Query.{buffer_questions, range_questions, query_number, segment_of, derivative, derivative_after}
use Rattle.law_lists.proofs.Lists.{length-listed, joined_twice}
use Rattle.rules.proofs.Questions.{said_yes}
use Rattle.rules.proofs.Build.{coefficient_count, length-segment, length-node, length_state}

-- ---- the length of derivative k's buffer

abbrev pub length_of : Lengths → ℕ → ℕ
length_of n zero = n.q
length_of n (suc zero) = n.dq
length_of n (suc (suc zero)) = n.ddq
length_of n (suc (suc (suc k))) = n.dddq

module _ (i : QueryInput) (n : Lengths) where
  abbrev valid : ℕ → ℕ → Bool
  valid = valid_length i.path.axes i.level

  abbrev two : Bool
  two = valid 0 n.q && valid 1 n.dq

  abbrev three : Bool
  three = two && valid 2 n.ddq

  asked : query_number i n ≡ 0 → T (three && valid 3 n.dddq)
  unfolding query_number query_questions path_questions buffer_questions range_questions
  asked e = said_yes (query_questions i n) tt e 7

  each : T (three && valid 3 n.dddq) → (k : ℕ) → k ≤ 3 → T (valid k (length_of n k))
  each t zero h = and_l (valid 0 n.q) (valid 1 n.dq) (and_l two (valid 2 n.ddq) (and_l three (valid 3 n.dddq) t))
  each t (suc zero) h = and_r (valid 0 n.q) (valid 1 n.dq) (and_l two (valid 2 n.ddq) (and_l three (valid 3 n.dddq) t))
  each t (suc (suc zero)) h = and_r two (valid 2 n.ddq) (and_l three (valid 3 n.dddq) t)
  each t (suc (suc (suc zero))) h = and_r three (valid 3 n.dddq) t
  each t (suc (suc (suc (suc k)))) h = absurd (omega arith)

  written : (w : Bool) (cells : ℕ) → T w → T (not w || eqb cells i.path.axes) → cells ≡ i.path.axes
  written true cells t v = eqb→eq cells i.path.axes v
  written false cells t v = absurd t

  -- the eighth question: a buffer that the level writes is as long as the axes
  pub long_enough : T (three && valid 3 n.dddq) → (k : ℕ) → k ≤ 3 → writes i.level k ≡ true → length_of n k ≡ i.path.axes
  long_enough t k h w = written (writes i.level k) (length_of n k) (subst T (sym w) tt) (each t k h)

  length-derivative : (k : ℕ) → length (derivative i k) ≡ i.path.axes
  unfolding derivative
  length-derivative k = length-listed _ _

  -- D1: no buffer changes its length
  pub keeps_length : (k : ℕ) → k ≤ 3 → (before : List Float) → length before ≡ length_of n k → length (derivative_after i n k before) ≡ length before
  unfolding derivative_after
  keeps_length k h before e =
      go (eqb (query_number i n) 0) (writes i.level k) (eqb→eq (query_number i n) 0) (λ t. written (writes i.level k) (length_of n k) t)
    where
      go : (a w : Bool) → (T a → query_number i n ≡ 0) → (T w → T (valid k (length_of n k)) → length_of n k ≡ i.path.axes)
          → length (cond (a && w) (derivative i k) before) ≡ length before
      go true true p v = length-derivative k ∙ sym (v tt (each (asked (p tt)) k h)) ∙ sym e
      go true false p v = refl
      go false true p v = refl
      go false false p v = refl

-- ---- what a build wrote

module _ (b : BuildInput) (axis i : ℕ) where
  abbrev m : ℕ
  m = m_of b.config.order

  abbrev node : ℕ → List Float
  node =
      node_numbers m (b.points - 2) (axis_waypoints b axis)
      (axis_state b b.config.start_state b.start axis)
      (axis_state b b.config.end_state b.end axis)

  abbrev pub built_segment : List Float
  built_segment = segment_coefficients m (axis_waypoints b axis ! i) (dy (axis_waypoints b axis) i) (node i) (node (suc i))

  -- B14: a query takes for a segment of an axis what the build wrote for it
  pub read_back : T (valid_order b.config.order) → 2 ≤ b.points → axis < b.axes → i < b.points - 1
      → segment_of (accepted_record b) (table b) axis i ≡ built_segment
  unfolding segment_of accepted_record table axis_coefficients
  read_back t h a l =
      ap₂ (λ (count segments : ℕ). take count (drop ((axis * segments + i) * count) (table b))) (sym (coefficient_count b.config.order t)) (omega arith)
      ∙ joined_twice b.axes (b.points - 2 + 1) (2 * m + 2) _
      (λ a' i'. length-segment m _ _ _ _ (length-node m _ _ _ _ (length_state b _ _ a') (length_state b _ _ a') i')) axis i a (omega arith)
