-- The table of a build fills its buffer exactly: `length-table`. So a build keeps the length of the buffer, whatever it is
-- given: `keeps_length`. Assumes nothing.
use mathlib.Core.Path.{◌≡◌, refl, sym, ap₂, ◌∙◌}
use mathlib.Core.Logic.{◌⊎◌, inl, inr}
use mathlib.Core.Bool.{Bool, true, false, cond, ◌||◌}
use mathlib.Core.List.{List}
use Prim.Native.Nat.{ℕ, zero, suc, ◌+◌, ◌*◌, ◌-◌, ◌≤◌}
use native.Mathlib.Nat.{mul_assoc}
use native.Mathlib.Omega.{arith}
use lib.Dec.{T, ltb, eqb, eqb→eq}
use lib.ListN.{length, length-append}
use lib.Ieee.{Float}
use Rattle.std.specs.Prelude.{Option}
use Rattle.rules.specs.declared.BoundaryState.{BoundaryState}
use Rattle.rules.specs.Tables.{m_of}
use Rattle.rules.specs.Build.{BuildInput, valid_order, table_length, build_questions}
use Rattle.rules.specs.Build.{build_number, segment_coefficients, solved_side, inner_numbers}
use Rattle.rules.specs.Build.{node_numbers, axis_coefficients, axis_state, table, buffer_after}
use Rattle.law_lists.proofs.Lists.{length-listed, length-joined}
use Rattle.rules.proofs.BuildAnswers.{answered, order_known, points_known}
use Rattle.rules.proofs.Solve.{length-minus, length-solve}

length_cond : {A : Type 0} (t : Bool) (x y : List A) (n : ℕ) → length x ≡ n → length y ≡ n → length (cond t x y) ≡ n
length_cond true x y n p q = p
length_cond false x y n p q = q

pub length-segment : (m : ℕ) (y d : Float) (left right : List Float) → length left ≡ m → length (segment_coefficients m y d left right) ≡ 2 * m + 2
unfolding segment_coefficients
length-segment m y d left right h = simp (length-append, length-listed, h) (omega arith)

-- ---- one axis

module _ (m n : ℕ) (w start end : List Float) where
  pub length-solved_side : (i : ℕ) → length (solved_side m n w start end i) ≡ m
  unfolding solved_side
  length-solved_side zero = length-solve m _ _
  length-solved_side (suc i) = length-solve m _ _

  pub length-inner : (i k : ℕ) → length (inner_numbers m n w start end i k) ≡ m
  unfolding inner_numbers
  length-inner i zero = length-solved_side i
  length-inner i (suc k) = length-minus m _ _

  module _ (hs : length start ≡ m) (he : length end ≡ m) where
    pub length-node : (i : ℕ) → length (node_numbers m n w start end i) ≡ m
    unfolding node_numbers
    length-node zero = hs
    length-node (suc i) = length_cond (ltb i n) _ end m (length-inner i (n - suc i)) he

    pub length_axis : length (axis_coefficients m n w start end) ≡ (n + 1) * (2 * m + 2)
    unfolding axis_coefficients
    length_axis = length-joined (n + 1) (2 * m + 2) _ (λ i h. length-segment m _ _ _ _ (length-node i))

-- ---- all axes

pub length_state : (b : BuildInput) (state : Option BoundaryState) (numbers : List Float) (axis : ℕ) → length (axis_state b state numbers axis) ≡ m_of b.config.order
unfolding axis_state
length_state b state numbers axis = length-listed _ _

either : (a b : Bool) → T (a || b) → T a ⊎ T b
either true b t = inl tt
either false b t = inr t

-- what holds of 3, 5 and 7 holds of a valid order
pub by_order : (P : ℕ → Type 0) → P 3 → P 5 → P 7 → (order : ℕ) → T (valid_order order) → P order
unfolding valid_order
by_order P x y z order t = go (either (eqb order 3 || eqb order 5) (eqb order 7) t)
  where
    at : (k : ℕ) → P k → T (eqb order k) → P order
    at k h t = rw (eqb→eq order k t) h

    small : T (eqb order 3) ⊎ T (eqb order 5) → P order
    small (inl t) = at 3 x t
    small (inr t) = at 5 y t

    go : T (eqb order 3 || eqb order 5) ⊎ T (eqb order 7) → P order
    go (inl t) = small (either (eqb order 3) (eqb order 5) t)
    go (inr t) = at 7 z t

-- a segment's 2m + 2 coefficients are order + 1
pub coefficient_count : (order : ℕ) → T (valid_order order) → 2 * m_of order + 2 ≡ order + 1
coefficient_count = by_order (λ order. 2 * m_of order + 2 ≡ order + 1) refl refl refl

-- B7, B14: the table fills the buffer exactly
pub length-table : (b : BuildInput) → T (valid_order b.config.order) → 2 ≤ b.points
    → length (table b) ≡ table_length b.axes (b.points - 1) b.config.order
unfolding table
length-table b t h =
    length-joined b.axes ((b.points - 2 + 1) * (2 * m_of b.config.order + 2)) _
    (λ axis l. length_axis _ _ _ _ _ (length_state b _ _ axis) (length_state b _ _ axis))
    ∙ ap₂ (λ (segments cells : ℕ). b.axes * (segments * cells)) (omega arith) (coefficient_count _ t)
    ∙ sym (mul_assoc b.axes (b.points - 1) (b.config.order + 1))

-- ---- the buffer

-- by questions 1, 2 and 7, the last of which stands behind two questions about states
accepted_length : (b : BuildInput) (cells : ℕ) → build_number b cells ≡ 0 → length (table b) ≡ cells
unfolding build_questions
accepted_length b cells e =
    length-table b (order_known b cells e) (points_known b cells e).0 ∙ sym (eqb→eq cells _ (answered b cells e 7))

-- D1: no buffer changes its length
pub keeps_length : (b : BuildInput) (before : List Float) → length (buffer_after b before) ≡ length before
unfolding buffer_after
keeps_length b before = go (eqb (build_number b (length before)) 0) (eqb→eq (build_number b (length before)) 0)
  where
    go : (t : Bool) → (T t → build_number b (length before) ≡ 0) → length (cond t (table b) before) ≡ length before
    go true e = accepted_length b (length before) (e tt)
    go false e = refl
