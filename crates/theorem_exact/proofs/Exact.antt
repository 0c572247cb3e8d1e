-- Two-point builds of whole numbers are exact. Assumes nothing.
use mathlib.Core.Path.{◌≡◌, refl, sym, ap, ap₂, ◌∙◌, subst₂}
use mathlib.Core.Bool.{Bool, true, false, not, cond, ◌&&◌}
use mathlib.Core.List.{List, [], ◌∷◌, map}
use Rattle.std.specs.Prelude.{Option, Some, None, Ok, Err}
use Prim.Native.Nat.{ℕ, zero, suc, ◌+◌, ◌-◌, ◌*◌, ◌<◌}
use native.Mathlib.Nat.{one-mul, zero-mul, not-suc-le-zero}
use native.Mathlib.Omega.{arith}
use borrow.Author.Tests.{eq-eqb}
use lib.Dec.{T, eqb}
use lib.IntN.{◌-ℤ◌, +ℤ_comm, -ℤ-+ℤ_cancel}
use lib.ListN.{length, length-map, get_or-map}
use lib.Ieee.{Float}
use lib.Ieee.Bits.{is_true}
use lib.Ieee.Fits.{and_l, and_r}
use Rattle.law_rounding.specs.Whole.{is_whole, whole_of}
use Rattle.law_rounding.proofs.Whole.{HasWhole, whole_test, whole_number}
use Rattle.rules.specs.declared.BoundaryState.{BoundaryState}
use Rattle.rules.specs.declared.PathError.TheVariants.{InvalidArgument}
use Rattle.rules.specs.Floats.{◌⊖◌, ◌!◌, +0}
use Rattle.law_lists.specs.Lists.{all, every, listed, joined}
use Rattle.rules.specs.Questions.{ask, first_no}
use Rattle.rules.specs.Tables.{m_of}
use Rattle.rules.specs.Build.{BuildInput, build_number, valid_order, dy, segment_coefficients, node_numbers, axis_coefficients, axis_waypoints, axis_state}
use Rattle.rules.specs.Master.{MasterSet, MasterSays, Equations, within, at, coefficient}
use Rattle.rules.specs.Master.{master_questions, size_questions, length_questions, number_questions, master_number}
use Rattle.rules.specs.Master.{meets_joints, endpoint_equations, joint_equations, check_master, master_says}
use Rattle.law_lists.proofs.Lists.{all_at, all_of, length-listed}
use Rattle.law_lists.proofs.Filling.{all_listed, listed_ext}
use Rattle.rules.proofs.Master.{of_equations}
use Rattle.rules.proofs.Build.{length-segment, coefficient_count}
use Rattle.rules.proofs.BuildAnswers.{order_known}
use Rattle.theorem_builds.specs.Independent.{marked, given_number, axis_part}
use Rattle.theorem_exact.specs.Exact.{whole_within, whole_state, WholeTwoPoints, given_state, axis_set, Exact, TwoPointsAreExact}
use Rattle.theorem_builds.proofs.AxisPart.{coefficients_of, part_is}
use Rattle.theorem_builds.proofs.Independent.{boundary_is}
use Rattle.theorem_exact.proofs.Sums.{form}
use Rattle.theorem_exact.proofs.Tables.{coefficient_form, TableFacts, table_facts}
use Rattle.theorem_exact.proofs.Segment.{numbers, meets}
use Rattle.theorem_exact.proofs.Floats.{zero_within, segment_whole}

-- ---- the equations of one segment, as the check has them

only_zero : (P : ℕ → Type 0) → P 0 → (i : ℕ) → i < 1 → P i
only_zero P p zero l = p
only_zero P p (suc i) l = absurd (omega arith)

-- a coefficient of the first segment of a table
pub first_segment : (m : ℕ) (xs : List Float) (k : ℕ) → coefficient m (map whole_of xs) 0 k ≡ whole_of (xs ! k)
unfolding whole_of
first_segment m xs k = ap (at (map whole_of xs)) (none_before (2 * m + 2)) ∙ get_or-map whole_of xs k +0
  where
    none_before : (n : ℕ) → 0 * n + k ≡ k
    none_before n = rw zero-mul (omega arith)

-- a test that passes, as an equation
all_within : (xs : List Float) → T (all whole_within xs) → all within (map whole_of xs) ≡ true
unfolding all whole_within
all_within [] t = refl
all_within (x ∷ xs) t =
    ap₂ ◌&&◌ (is_true (within (whole_of x)) (and_r (is_whole x) _ (and_l (whole_within x) (all whole_within xs) t)))
    (all_within xs (and_r (whole_within x) (all whole_within xs) t))

-- the check's last question, and its answer

asked : (t : Bool) → first_no (ask t 4 ∷ []) ≡ cond t 0 4
unfolding first_no
asked true = refl
asked false = refl

-- what the check says where it answers n and the equations are met or not
abbrev answering : ℕ → Bool → MasterSays
answering n met = record { refused = not (eqb n 0); number = n; good = eqb n 0 && met && true }

says : (t : Bool) → answering (cond t 0 4) true ≡ master_says (cond t (Ok true) (Err InvalidArgument))
unfolding master_says
says true = refl
says false = refl

-- What the rules compute from two waypoints u and v and the states left and right, and the set that it makes with them.
module _ (order : ℕ) (u v : Float) (left right : List Float) where
  abbrev m : ℕ
  m = m_of order

  abbrev segment : List Float
  segment = segment_coefficients m u (v ⊖ u) left right

  abbrev set : MasterSet
  set = record {
    order = order;
    waypoints = map whole_of (u ∷ v ∷ []);
    start = map whole_of left;
    end = map whole_of right;
    table = map whole_of segment;
  }

  module _ (valid : T (valid_order order)) (full : length left ≡ m) (full' : length right ≡ m)
      (tw : T (all whole_within (u ∷ v ∷ []))) (tl : T (all whole_within left)) (tr : T (all whole_within right)) where
    facts : TableFacts m
    facts = table_facts order valid

    coefficient_whole : (k : ℕ) → k < 2 * m + 2
        → HasWhole (segment ! k) (form (2 * m + 2) (coefficient_form m k) (numbers (whole_of u) (whole_of v -ℤ whole_of u) set.start set.end))
    coefficient_whole =
        let waypoint = all_at whole_within (u ∷ v ∷ []) +0 zero_within tw in
        segment_whole m facts u v left right full (waypoint 0) (waypoint 1) tl tr

    coefficient_is : (k : ℕ) → k < 2 * m + 2
        → coefficient m set.table 0 k ≡ form (2 * m + 2) (coefficient_form m k) (numbers (whole_of u) (whole_of v -ℤ whole_of u) set.start set.end)
    coefficient_is k l =
        first_segment m segment k ∙ whole_number (segment ! k) (coefficient_whole k l)

    equations : Equations set
    equations =
        let y = whole_of u in
        let d = whole_of v -ℤ y in
        let q = meets m y d set.start set.end (length-map left whole_of ∙ full) set.table facts coefficient_is in
        record {
          left = only_zero _ q.starts;
          right = only_zero _ (q.ends ∙ +ℤ_comm y d ∙ -ℤ-+ℤ_cancel (whole_of v) y);
          start = q.starts_with;
          end = q.ends_with;
          joint = λ i l. absurd (not-suc-le-zero l);
        }

    whole : T (all is_whole segment)
    whole =
        all_of is_whole segment +0 (λ k l.
        whole_test (segment ! k) (coefficient_whole k (rw (length-segment m u (v ⊖ u) left right full) at l)))

    endpoints : T (endpoint_equations set)
    endpoints = (of_equations set equations).0

    number : master_number set ≡ cond (all within set.table) 0 4
    unfolding master_number master_questions size_questions length_questions number_questions first_no
    number =
        rw (
          is_true (valid_order order) valid,
          eq-eqb _ _ (length-map left whole_of ∙ full),
          eq-eqb _ _ (length-map right whole_of ∙ full'),
          eq-eqb _ _ (length-map segment whole_of ∙ length-segment m u (v ⊖ u) left right full ∙ coefficient_count order valid ∙ sym (one-mul (order + 1))),
          all_within (u ∷ v ∷ []) tw,
          all_within left tl,
          all_within right tr,
        ) (asked (all within set.table))

    check : check_master set ≡ master_says (cond (all within set.table) (Ok true) (Err InvalidArgument))
    unfolding check_master joint_equations meets_joints every
    check = ap₂ answering number (is_true (endpoint_equations set) endpoints) ∙ says (all within set.table)

    exact_segment : Exact segment set
    exact_segment = record { whole = whole; endpoints = endpoints; equations = equations; check = check }

-- ---- an axis of a build

-- a number of a state of whole numbers
number_within : (axes : ℕ) (state : Option BoundaryState) (numbers : List Float) (axis r : ℕ) → T (whole_state state numbers)
    → T (whole_within (given_number axes state numbers axis r))
unfolding whole_state given_number
number_within axes None numbers axis r t = zero_within
number_within axes (Some state) numbers axis r t = all_at whole_within numbers +0 zero_within t (r * axes + axis)

module _ (b : BuildInput) (cells axis : ℕ) (accepted : build_number b cells ≡ 0) (w : WholeTwoPoints b) (inside : axis < b.axes) where
  abbrev start : List Float
  start = given_state b b.config.start_state b.start axis

  abbrev end : List Float
  end = given_state b b.config.end_state b.end axis

  abbrev waypoint : ℕ → Float
  waypoint p = b.waypoints ! (p * b.axes + axis)

  module _ (state : Option BoundaryState) (numbers : List Float) where
    length_given : length (given_state b state numbers axis) ≡ m_of b.config.order
    unfolding given_state
    length_given = length-listed _ _

    state_within : T (whole_state state numbers) → T (all whole_within (given_state b state numbers axis))
    unfolding given_state
    state_within t = all_listed whole_within _ _ (λ r. number_within b.axes state numbers axis r t)

    -- the build uses an unmarked state as it is given
    used_as_given : marked state ≡ false → axis_state b state numbers axis ≡ given_state b state numbers axis
    unfolding axis_state given_state
    used_as_given e = listed_ext _ _ _ (λ r l. boundary_is b.axes _ state numbers axis r ∙ rw e)

  waypoints_are : axis_waypoints b axis ≡ waypoint 0 ∷ waypoint 1 ∷ []
  unfolding axis_waypoints listed
  waypoints_are = ap (λ (n : ℕ). listed n waypoint) w.points

  waypoints_within : T (all whole_within (waypoint 0 ∷ waypoint 1 ∷ []))
  unfolding listed
  waypoints_within = all_listed whole_within 2 waypoint (λ p. all_at whole_within b.waypoints +0 zero_within w.waypoints (p * b.axes + axis))

  -- the one segment
  coefficients_are : coefficients_of b axis ≡ segment b.config.order (waypoint 0) (waypoint 1) start end
  unfolding coefficients_of axis_coefficients joined node_numbers dy
  coefficients_are =
      rw (
        used_as_given b.config.start_state b.start w.start_unmarked,
        used_as_given b.config.end_state b.end w.end_unmarked,
      )
      (ap₂ (λ (n : ℕ) (ws : List Float). axis_coefficients (m_of b.config.order) n ws start end) (ap (λ (p : ℕ). p - 2) w.points) waypoints_are)

  part : axis_part b axis ≡ segment b.config.order (waypoint 0) (waypoint 1) start end
  part = part_is b cells accepted axis inside ∙ coefficients_are

  set_is : axis_set b axis ≡ set b.config.order (waypoint 0) (waypoint 1) start end
  unfolding axis_set
  set_is = rw (waypoints_are, part)

  exact_axis : Exact (axis_part b axis) (axis_set b axis)
  exact_axis =
      subst₂ Exact (sym part) (sym set_is)
      (exact_segment b.config.order (waypoint 0) (waypoint 1) start end (order_known b cells accepted)
      (length_given b.config.start_state b.start)
      (length_given b.config.end_state b.end)
      waypoints_within
      (state_within b.config.start_state b.start w.start)
      (state_within b.config.end_state b.end w.end))

pub two_points_are_exact : TwoPointsAreExact
unfolding TwoPointsAreExact
two_points_are_exact = exact_axis
