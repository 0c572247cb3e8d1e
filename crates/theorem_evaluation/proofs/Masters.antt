-- A set to which the check says yes evaluates to its waypoints and states: what the check's equations say of a segment's coefficients is what the evaluation
-- finds at tau 0 and tau 1. Assumes nothing.
use mathlib.Core.Path.{◌≡◌, refl, sym, ap, ap₂, ◌∙◌, subst}
use mathlib.Core.Bool.{Bool, true, cond, ◌&&◌}
use mathlib.Core.List.{List}
use Rattle.std.specs.Prelude.{Ok, Err}
use Prim.Native.Nat.{ℕ, zero, suc, ◌+◌, ◌-◌, ◌*◌, ◌<◌, ◌≤◌}
use native.Mathlib.Nat.{one-mul}
use native.Mathlib.Omega.{arith}
use lib.Dec.{T, lit≤}
use lib.IntN.{ℤ, pos, ◌*ℤ◌}
use lib.ListN.{length, length-map}
use lib.Ieee.{Float}
use lib.Ieee.Bits.{is_true}
use lib.Ieee.Fits.{and_i, and_r}
use Rattle.law_integers.proofs.Laws.{one-*ℤ, *ℤ-assoc}
use Rattle.law_rounding.specs.Whole.{is_whole}
use Rattle.rules.specs.declared.PathError.TheVariants.{InvalidArgument}
use Rattle.rules.specs.Floats.{◌!◌, +0, +1}
use Rattle.law_lists.specs.Lists.{all}
use Rattle.rules.specs.Tables.{m_of}
use Rattle.rules.specs.Build.{BuildInput, valid_order, build_number, axis_waypoints}
use Rattle.rules.specs.Master.{MasterSet, MasterSays, Equations, within, coefficient, binomial, sumℤ, at_end, segments}
use Rattle.rules.specs.Master.{master_questions, size_questions, length_questions, number_questions, master_number, check_master, master_says}
use Rattle.rules.specs.Query.{derivative_factor, eval_poly}
use Rattle.law_lists.proofs.Lists.{all_at, all_of, length-listed}
use Rattle.rules.proofs.Questions.{said_yes}
use Rattle.rules.proofs.Build.{by_order, coefficient_count}
use Rattle.rules.proofs.Master.{yes_iff}
use Rattle.theorem_builds.specs.Independent.{axis_part}
use Rattle.theorem_exact.specs.Exact.{whole_within, WholeTwoPoints, axis_set, Exact, TwoPointsAreExact}
use Rattle.theorem_evaluation.specs.Evaluation.{IsNumber, derivative_at0, derivative_at1, ExactAtEnds, WholeNumbersEvaluateExactly}
use Rattle.theorem_evaluation.specs.Masters.{IsSegment, MeetsItsMaster, MastersEvaluateExactly, TwoPointsEvaluateExactly}
use Rattle.theorem_exact.proofs.Sums.{sum_same, sum_times}
use Rattle.theorem_evaluation.proofs.Derivatives.{factor_binomial}
use Rattle.theorem_builds.proofs.AxisPart.{axis_length, part_is}
use Rattle.theorem_exact.proofs.Exact.{first_segment, two_points_are_exact}
use Rattle.theorem_evaluation.proofs.Evaluation.{whole_numbers_evaluate_exactly}

-- ---- a set to which the check says yes

-- the first three derivatives are there at each order, and a state has no more numbers
sizes : (order : ℕ) → T (valid_order order) → (3 ≤ order) × (m_of order ≤ 3)
sizes = by_order (λ (order : ℕ). (3 ≤ order) × (m_of order ≤ 3)) (lit≤ tt, lit≤ tt) (lit≤ tt, lit≤ tt) (lit≤ tt, lit≤ tt)

module _ (s : MasterSet) (accepted : master_number s ≡ 0) where
  abbrev m : ℕ
  m = m_of s.order

  order_valid : T (valid_order s.order)
  unfolding master_number master_questions size_questions length_questions number_questions
  order_valid = said_yes (master_questions s) tt accepted 0

  table_within : T (all within s.table)
  unfolding master_number master_questions size_questions length_questions number_questions
  table_within =
      and_r (all within s.waypoints && all within s.start && all within s.end) (all within s.table) (said_yes (master_questions s) tt accepted 6)

  module _ (i : ℕ) (a : List Float) (segment : IsSegment s i a) where
    abbrev coefficients : ℕ → ℤ
    coefficients = coefficient m s.table i

    segment_within : T (all whole_within a)
    unfolding whole_within is_whole within
    segment_within =
        all_of whole_within a +0 (λ j l.
        and_i (is_whole (a ! j)) _ (all_at is_whole a +0 tt segment.whole j)
        (subst (λ (z : ℤ). T (within z)) (sym (segment.numbers j (subst (λ (n : ℕ). j < n) segment.count l)))
        (all_at within s.table (pos 0) tt table_within _)))

    ends : (k : ℕ) → k ≤ 3 → ExactAtEnds s.order a k
    unfolding WholeNumbersEvaluateExactly
    ends k = whole_numbers_evaluate_exactly s.order a k order_valid segment.count segment_within

    -- at tau 0 and tau 1 derivative k is k! times what the equations have
    at_start_lem : (k : ℕ) (z : ℤ) → k ≤ 3 → coefficients k ≡ z → IsNumber (eval_poly s.order a +0 k) (pos (derivative_factor k k) *ℤ z)
    unfolding derivative_at0
    at_start_lem k z h e =
        let size = sizes s.order order_valid in
        subst (IsNumber _) (ap (λ (z : ℤ). pos (derivative_factor k k) *ℤ z) (segment.numbers k (omega arith) ∙ e)) (ends k h).at0

    at_end_lem : (k : ℕ) (z : ℤ) → k ≤ 3 → at_end m s.table i k ≡ z → IsNumber (eval_poly s.order a +1 k) (pos (derivative_factor k k) *ℤ z)
    unfolding derivative_at1 at_end
    at_end_lem k z h e =
        let binomials : ℕ → ℤ = λ j. pos (binomial j k) *ℤ coefficients j in
        subst (IsNumber _)
        (sum_same (s.order + 1) _ _ (λ j l.
        ap₂ (λ (f : ℕ) (z : ℤ). pos f *ℤ z) (factor_binomial j k) (segment.numbers j l)
        ∙ *ℤ-assoc (pos (derivative_factor k k)) (pos (binomial j k)) (coefficients j))
        ∙ sum_times (s.order + 1) (pos (derivative_factor k k)) binomials
        ∙ ap (λ (z : ℤ). pos (derivative_factor k k) *ℤ z) (ap (λ (n : ℕ). sumℤ n binomials) (sym (coefficient_count s.order order_valid)) ∙ e))
        (ends k h).at1

  module _ (equations : Equations s) (i : ℕ) (a : List Float) (inside : i < segments s) (segment : IsSegment s i a) where
    -- at a joint the sum is the next segment's coefficient, of the position too: both are the waypoint
    joined : suc i < segments s → (k : ℕ) → k ≤ 2 * m → at_end m s.table i k ≡ coefficient m s.table (suc i) k
    joined h zero l = equations.right i inside ∙ sym (equations.left (suc i) h)
    joined h (suc r) l = equations.joint i (omega arith) r l

    meets : MeetsItsMaster s i a
    unfolding derivative_factor
    meets =
        let few : m ≤ 3 = (sizes s.order order_valid).1 in
        record {
          left = subst (IsNumber _) (one-*ℤ _) (at_start_lem i a segment 0 _ (omega arith) (equations.left i inside));
          right = subst (IsNumber _) (one-*ℤ _) (at_end_lem i a segment 0 _ (omega arith) (equations.right i inside));
          start = λ e r l. at_start_lem i a segment (suc r) _ (omega arith) (ap (λ (i : ℕ). coefficient m s.table i (suc r)) e ∙ equations.start r l);
          end = λ e r l. at_end_lem i a segment (suc r) _ (omega arith) (ap (λ (i : ℕ). at_end m s.table i (suc r)) (omega arith) ∙ equations.end r l);
          joint = λ h b next k l l'. (at_end_lem i a segment k _ l (joined h k l')).number ∙ sym (at_start_lem (suc i) b next k _ l refl).number;
        }

pub masters_evaluate_exactly : MastersEvaluateExactly
unfolding MastersEvaluateExactly
masters_evaluate_exactly s i a good inside segment = let said = (yes_iff s).0 good in meets s said.0 said.1 i a inside segment

-- ---- two-point builds

module _ (b : BuildInput) (cells axis : ℕ) (accepted : build_number b cells ≡ 0) (w : WholeTwoPoints b) (inside : axis < b.axes)
    (small : T (all within (axis_set b axis).table)) where
  exact : Exact (axis_part b axis) (axis_set b axis)
  unfolding TwoPointsAreExact
  exact = two_points_are_exact b cells axis accepted w inside

  -- the check says yes to an axis
  pub two_points_checked : T (check_master (axis_set b axis)).good
  unfolding master_says
  two_points_checked =
      subst (λ (says : MasterSays). T says.good)
      (sym (exact.check ∙ ap (λ (t : Bool). master_says (cond t (Ok true) (Err InvalidArgument))) (is_true (all within (axis_set b axis).table) small))) tt

  one_segment : 0 < segments (axis_set b axis)
  unfolding axis_set axis_waypoints
  one_segment = let two : b.points ≡ 2 = w.points in rw (length-map, length-listed) (omega arith)

  part_segment : IsSegment (axis_set b axis) 0 (axis_part b axis)
  unfolding axis_set
  part_segment = record {
    count =
        ap length (part_is b cells accepted axis inside)
        ∙ axis_length b cells accepted axis
        ∙ ap (λ (points : ℕ). (points - 1) * (b.config.order + 1)) w.points
        ∙ one-mul (b.config.order + 1);
    whole = exact.whole;
    numbers = λ j l. sym (first_segment (m_of b.config.order) (axis_part b axis) j);
  }

  evaluates : MeetsItsMaster (axis_set b axis) 0 (axis_part b axis)
  unfolding MastersEvaluateExactly
  evaluates = masters_evaluate_exactly (axis_set b axis) 0 (axis_part b axis) two_points_checked one_segment part_segment

pub two_points_evaluate_exactly : TwoPointsEvaluateExactly
unfolding TwoPointsEvaluateExactly
two_points_evaluate_exactly = evaluates
