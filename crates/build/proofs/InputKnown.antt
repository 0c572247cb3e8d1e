-- What a build may rely on where its preview refuses nothing: how large its numbers are and how long its lists, `known`. And the axes' coefficients, as
-- `fill` leaves them by the build's plan, are what the buffer is to hold: `filled`. Where the preview refuses: `refused`. Assumes nothing.
use mathlib.Core.Path.{◌≡◌, sym, ap, ap₂, ◌∙◌}
use mathlib.Core.Bool.{◌&&◌}
use mathlib.Core.List.{List}
use Prim.Native.Nat.{ℕ, ◌+◌, ◌-◌, ◌*◌, ◌≤◌}
use native.Mathlib.Nat.{le_of_eq, mul_comm, mul_assoc}
use native.Mathlib.Omega.{arith}
use lib.Dec.{T, eqb, eqb→eq}
use lib.ListN.{length}
use lib.Ieee.{Float}
use lib.Ieee.Fits.{and_r}
use Rattle.std.specs.Prelude.{Option, Some, None, Err}
use Rattle.rules.specs.declared.BoundaryState.{BoundaryState}
use Rattle.rules.specs.declared.PathError.{PathError}
use Rattle.rules.specs.declared.PathRecord.{PathRecord}
use Rattle.rules.specs.Tables.{m_of}
use Rattle.rules.specs.Build.{BuildInput, BuildAnswer, valid_state, build_questions, build_number, accepted_record, build_answer}
use Rattle.rules.specs.Build.{of_axis, boundary_number, axis_coefficients, axis_waypoints, axis_state, table, build_answered, buffer_after}
use Rattle.rules.specs.Questions.{number_of}
use Rattle.law_lists.specs.Lists.{listed, joined}
use Rattle.rules.proofs.Questions.{answer_at, refused_not_zero}
use Rattle.rules.proofs.Build.{by_order, coefficient_count}
use Rattle.rules.proofs.BuildAnswers.{answered, order_known, points_known, axes_known, accepted_answer, accepted_buffer, refused_buffer}
use Rattle.law_lists.proofs.Filling.{joined_ext}
use Rattle.build_plan.specs.Given.{numbers_taken}

-- a preview that refuses nothing, of a buffer of so many cells
abbrev pub Accepted : BuildInput → ℕ → PathRecord → Type 0
Accepted b cells path = ◌≡◌ {A = BuildAnswer} (record { number = 0; path = path }) (build_answer b cells)

has_numbers : (axes m : ℕ) (state : Option BoundaryState) (numbers : List Float)
    → T (valid_state axes m state numbers) → numbers_taken axes m state ≤ length numbers
unfolding valid_state
has_numbers axes m None numbers t = omega arith
has_numbers axes m (Some state) numbers t =
    le_of_eq (mul_comm m axes ∙ sym (eqb→eq (length numbers) (axes * m) (and_r (eqb state.rows axes && eqb state.columns m) _ t)))

pub record Known (b : BuildInput) (cells : ℕ) : Type 0 where
  pub order : 1 ≤ b.config.order
  pub points : 2 ≤ b.points
  pub some : 1 ≤ m_of b.config.order
  pub few : m_of b.config.order ≤ 3
  pub few_nodes : b.points - 2 ≤ 255
  pub few_axes : b.axes ≤ 8
  pub waypoints_length : length b.waypoints ≡ (b.points - 2 + 2) * b.axes
  pub start_numbers : numbers_taken b.axes (m_of b.config.order) b.config.start_state ≤ length b.start
  pub end_numbers : numbers_taken b.axes (m_of b.config.order) b.config.end_state ≤ length b.end
  pub cells_are : cells ≡ b.axes * ((b.points - 2 + 1) * (2 * m_of b.config.order + 2))

module _ (b : BuildInput) (cells : ℕ) (path : PathRecord) (told : Accepted b cells path) where
  said_yes : build_number b cells ≡ 0
  unfolding build_answer
  said_yes = sym (ap (λ (r : BuildAnswer). r.number) told)

  path-is : path ≡ accepted_record b
  path-is = ap (λ (r : BuildAnswer). r.path) (told ∙ accepted_answer b cells said_yes)

  pub known : Known b cells
  unfolding build_questions
  known =
      let yes : (k : ℕ) → T (answer_at (build_questions b cells) k) = answered b cells said_yes in
      let valid = order_known b cells said_yes in
      let points : (2 ≤ b.points) × (b.points ≤ 257) = points_known b cells said_yes in
      let m : (1 ≤ b.config.order) × (1 ≤ m_of b.config.order) × (m_of b.config.order ≤ 3) =
      by_order (λ order. (1 ≤ order) × (1 ≤ m_of order) × (m_of order ≤ 3))
      (omega arith, omega arith, omega arith) (omega arith, omega arith, omega arith) (omega arith, omega arith, omega arith) _ valid in
      record {
        order = m.0;
        points = points.0;
        some = m.1;
        few = m.2;
        few_nodes = omega arith;
        few_axes = axes_known b cells said_yes;
        waypoints_length = eqb→eq _ _ (yes 4) ∙ mul_comm b.axes b.points ∙ ap (λ (points : ℕ). points * b.axes) (omega arith);
        start_numbers = has_numbers _ _ _ _ (yes 5);
        end_numbers = has_numbers _ _ _ _ (yes 6);
        cells_are =
            eqb→eq _ _ (yes 7) ∙ mul_assoc b.axes (b.points - 1) (b.config.order + 1)
            ∙ ap₂ (λ (segments count : ℕ). b.axes * (segments * count)) (omega arith) (sym (coefficient_count _ valid));
      }

-- what the filling leaves by a plan that holds what the build is given, and the inv_ds of the record that the preview told
abbrev pub filled_by : BuildInput → PathRecord → List Float
filled_by b path =
    let m = m_of b.config.order in
    joined b.axes (λ axis.
    axis_coefficients m (b.points - 2) (listed (b.points - 2 + 2) (of_axis b.axes b.waypoints axis))
    (listed m (boundary_number b.axes path.inv_ds b.config.start_state b.start axis))
    (listed m (boundary_number b.axes path.inv_ds b.config.end_state b.end axis)))

pub filled : (b : BuildInput) (before : List Float) (path : PathRecord) → Accepted b (length before) path → filled_by b path ≡ buffer_after b before
unfolding table axis_waypoints axis_state
filled b before path told =
    let least = (known b (length before) path told).points in
    let points_are : b.points - 2 + 2 ≡ b.points = omega arith in
    rw (path-is b (length before) path told)
    (joined_ext b.axes _ _ (λ axis l. rw points_are) ∙ sym (accepted_buffer b before (said_yes b (length before) path told)))

-- where the preview refuses, the buffer stays
pub refused : (b : BuildInput) (before : List Float) (e : PathError) → build_answered (Err e) ≡ build_answer b (length before) → before ≡ buffer_after b before
unfolding build_answer
refused b before e told =
    sym (refused_buffer b before (number_of e) (refused_not_zero e) (sym (ap (λ (r : BuildAnswer). r.number) told)))
