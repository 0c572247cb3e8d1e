-- The build: document 01's questions before a build, what a build answers, and its rules of the arithmetic, in the paper's order. Assumes nothing.
use Rattle.std.specs.Prelude.{ℕ, zero, suc, ◌+◌, ◌*◌, ◌-◌, Bool, true, cond, ◌&&◌, ◌||◌, List, [], ◌∷◌, ◌++◌, length, leb, ltb, eqb, Option, Some, None, Result, Ok, Err, Float}
use Rattle.std.specs.Float.Ieee.{lt}
use Rattle.rules.specs.declared.PathParam.{PathParam}
use Rattle.rules.specs.declared.OutOfRangeMode.TheVariants.{Error}
use Rattle.rules.specs.declared.BoundaryState.{BoundaryState}
use Rattle.rules.specs.declared.SplineConfig.{SplineConfig}
use Rattle.rules.specs.declared.PathRecord.{PathRecord}
use Rattle.rules.specs.declared.SplineInput.{SplineInput}
use Rattle.rules.specs.declared.PathError.{PathError}
use Rattle.rules.specs.Floats.{◌⊕◌, ◌⊖◌, ◌⊗◌, ◌⊘◌, ◌!◌, +0, of_count, finite, sum_of}
use Rattle.law_lists.specs.Lists.{joined, listed, all}
use Rattle.rules.specs.Questions.{Question, ask, first_no, number_of}
use Rattle.rules.specs.Tables.{m_of, A, C, R, H}
use Rattle.rules.specs.Solve.{entry, times, minus, solve, node_factors, solved_c_of}

-- What a build is given, the coefficient buffer aside.
pub record BuildInput : Type 0 where
  pub config : SplineConfig
  pub points : ℕ
  pub axes : ℕ
  pub waypoints : List Float
  pub start : List Float
  pub end : List Float

abbrev pub input_of : SplineConfig → ℕ → ℕ → List Float → List Float → List Float → BuildInput
input_of config points axes waypoints start end = record { config = config; points = points; axes = axes; waypoints = waypoints; start = start; end = end }

-- the same of what code is given
abbrev pub given_by : SplineInput → BuildInput
given_by i = input_of i.config i.points i.axes i.waypoints.now i.start.now i.end.now

-- B12: a state that is given
abbrev pub given : ℕ → ℕ → Bool → Option BoundaryState
given rows columns per_unit_of_s = Some (record { rows = rows; columns = columns; per_unit_of_s = per_unit_of_s })

-- B11, B12: "Waypoints are column-major, axes by points"; so are the numbers of a state, axes by m: an axis's number in column k
abbrev pub of_axis : ℕ → List Float → ℕ → ℕ → Float
of_axis axes xs axis k = xs ! (k * axes + axis)

-- ---- questions before a build

-- B1, Q1, M1: "Is the order 3, 5 or 7?"
unfoldable pub valid_order : ℕ → Bool
valid_order order = eqb order 3 || eqb order 5 || eqb order 7

-- B4, Q4: "1 to 8 axes?"
unfoldable pub valid_axes : ℕ → Bool
valid_axes axes = leb 1 axes && leb axes 8

-- B6: "Is the start state none, or axes by m with that many numbers?"
unfoldable pub valid_state : ℕ → ℕ → Option BoundaryState → List Float → Bool
valid_state axes m None numbers = true
valid_state axes m (Some state) numbers = eqb state.rows axes && eqb state.columns m && eqb (length numbers) (axes * m)

-- B7, Q7: "axes × segments × (order + 1)"
abbrev pub table_length : ℕ → ℕ → ℕ → ℕ
table_length axes segments order = axes * segments * (order + 1)

-- B8, Q6: "segments / (s_max − s_min) as computed", which is inv_ds
unfoldable pub inv_ds_of : ℕ → PathParam → PathParam → Float
inv_ds_of segments lo hi = of_count segments ⊘ (hi.0 ⊖ lo.0)

-- B8, Q5: "Are s_min and s_max finite, s_min < s_max, and [inv_ds] finite and above 0?"
unfoldable pub valid_range : ℕ → PathParam → PathParam → Bool
valid_range segments lo hi =
    finite lo.0 && finite hi.0 && lt lo.0 hi.0 && finite (inv_ds_of segments lo hi) && lt +0 (inv_ds_of segments lo hi)

-- B9: "Is every .. given state number finite?"
unfoldable pub finite_state : Option BoundaryState → List Float → Bool
finite_state None numbers = true
finite_state (Some state) numbers = all finite numbers

-- the questions about what a build is given, into a buffer of so many cells, in order. (Question 10 is struck: crates/theorem_pivots.)
unfoldable pub build_questions : BuildInput → ℕ → List Question
build_questions b cells =
    let cfg = b.config in
    let m = m_of cfg.order in
    let segments = b.points - 1 in
    ask (valid_order cfg.order) 302 ∷  -- B1
    ask (leb 2 b.points) 304 ∷  -- B2
    ask (leb b.points 257) 2 ∷  -- B3
    ask (valid_axes b.axes) 300 ∷  -- B4
    ask (eqb (length b.waypoints) (b.axes * b.points)) 3 ∷  -- B5
    ask (valid_state b.axes m cfg.start_state b.start) 303 ∷  -- B6
    ask (valid_state b.axes m cfg.end_state b.end) 303 ∷  -- B6
    ask (eqb cells (table_length b.axes segments cfg.order)) 2 ∷  -- B7
    ask (valid_range segments cfg.s_min cfg.s_max) 301 ∷  -- B8
    ask (all finite b.waypoints && finite_state cfg.start_state b.start && finite_state cfg.end_state b.end) 4 ∷ []  -- B9

unfoldable pub build_number : BuildInput → ℕ → ℕ
build_number b cells = first_no (build_questions b cells)

-- ---- what a build answers

-- B13: "the record: order, segments, axes, s_min, s_max, inv_ds and the mode"
unfoldable pub accepted_record : BuildInput → PathRecord
accepted_record b = record {
  order = b.config.order;
  segments = b.points - 1;
  axes = b.axes;
  s_min = b.config.s_min;
  s_max = b.config.s_max;
  inv_ds = inv_ds_of (b.points - 1) b.config.s_min b.config.s_max;
  mode = b.config.out_of_range_mode;
}

-- B15: "the all-zero record with mode Error"
unfoldable pub refused_record : PathRecord
refused_record = record {
  order = 0;
  segments = 0;
  axes = 0;
  s_min = record { 0 = +0 };
  s_max = record { 0 = +0 };
  inv_ds = +0;
  mode = Error;
}

-- F11, B13, B15: what a build answers in document 01's terms: 0 or the refusal's number, with the record beside it
pub record BuildAnswer : Type 0 where
  pub number : ℕ
  pub path : PathRecord

abbrev pub build_answered : Result PathRecord PathError → BuildAnswer
build_answered (Ok path) = record { number = 0; path = path }
build_answered (Err error) = record { number = number_of error; path = refused_record }

-- B13, B15: "A yes to all returns 0 and the record"; "A refusal returns its number and the all-zero record"
-- V1, V2, V3, V4: a preview "gives the number and record that the build would give"; the buffer counts "only as a length", which is any number
unfoldable pub build_answer : BuildInput → ℕ → BuildAnswer
build_answer b cells =
    let number = build_number b cells in
    record { number = number; path = cond (eqb number 0) (accepted_record b) refused_record }

-- ---- rules of the arithmetic: w are the waypoints of one axis

-- R1: "dy = right minus left waypoint", of segment i
unfoldable pub dy : List Float → ℕ → Float
dy w i = w ! suc i ⊖ w ! i

-- R2: "Upper coefficient i = (H[i,0] × dy + P) + Q; P sums the next m entries times the left node's numbers, Q the last m times the right node's."
unfoldable pub upper_coefficient : ℕ → Float → List Float → List Float → ℕ → Float
upper_coefficient m d left right i =
    let h : ℕ → Float = entry (1 + 2 * m) (H m) i in
    let p = sum_of m (λ j. h (1 + j) ⊗ left ! j) in
    let q = sum_of m (λ j. h (1 + m + j) ⊗ right ! j) in
    (h 0 ⊗ d ⊕ p) ⊕ q

-- R4: "Segment: left waypoint, left node's m numbers, the m + 1 upper ones."
unfoldable pub segment_coefficients : ℕ → Float → Float → List Float → List Float → List Float
segment_coefficients m y d left right = y ∷ (left ++ listed (m + 1) (upper_coefficient m d left right))

-- R5: "At inner node i the right side is R[·,0] × dy before + R[·,1] × dy after": inner node i, counted from 0, is between segments i and i + 1
unfoldable pub right_side : ℕ → List Float → ℕ → List Float
right_side m w i = listed m (λ r. entry 2 (R m) r 0 ⊗ dy w i ⊕ entry 2 (R m) r 1 ⊗ dy w (suc i))

-- One axis with n inner nodes: its waypoints, and the m numbers of its first node and of its last.
module _ (m n : ℕ) (w start end : List Float) where
  -- R6, R7: "at the first node minus A·start; at the last then minus C·end"
  unfoldable pub bounded_side : ℕ → List Float
  bounded_side i =
      let v = right_side m w i in
      let first = cond (eqb i 0) (minus m v (times m (A m) start)) v in
      cond (eqb (suc i) n) (minus m first (times m (C m) end)) first

  -- R8, R10: "past the first then minus A times the previous solved right side"; "solved with" the node's matrix
  unfoldable pub solved_side : ℕ → List Float
  solved_side zero = solve m (node_factors m 0) (bounded_side 0)
  solved_side (suc i) = solve m (node_factors m (suc i)) (minus m (bounded_side (suc i)) (times m (A m) (solved_side i)))

  -- R11: "Back: u = solved right side − solved C · next u": the numbers of inner node i, which k inner nodes follow
  unfoldable pub inner_numbers : ℕ → ℕ → List Float
  inner_numbers i zero = solved_side i
  inner_numbers i (suc k) = minus m (solved_side i) (times m (solved_c_of m i) (inner_numbers (suc i) k))

  -- F5: "a node's numbers are a part taken from the boundary numbers or from the solved list": of the first node, of the last, and between
  unfoldable pub node_numbers : ℕ → List Float
  node_numbers zero = start
  node_numbers (suc i) = cond (ltb i n) (inner_numbers i (n - suc i)) end

  -- the axis's coefficients, by segment, then power
  unfoldable pub axis_coefficients : List Float
  axis_coefficients = joined (n + 1) (λ i. segment_coefficients m (w ! i) (dy w i) (node_numbers i) (node_numbers (suc i)))

-- ---- the boundary numbers

-- R20: divided k times, "one division after another"
unfoldable pub divided : ℕ → Float → Float → Float
divided zero x by = x
divided (suc k) x by = divided k x by ⊘ by

-- R19, R20, B12: column r of an axis. "A node's numbers are Taylor coefficients in segment units, copied unscaled from the state"; none is "all zero".
-- "a state may be marked per unit of s; column r, counted from 0, is then divided by inv_ds r + 1 times"
unfoldable pub boundary_number : ℕ → Float → Option BoundaryState → List Float → ℕ → ℕ → Float
boundary_number axes inv None numbers axis r = +0
boundary_number axes inv (Some state) numbers axis r =
    let x = of_axis axes numbers axis r in
    cond state.per_unit_of_s (divided (r + 1) x inv) x

-- ---- the table

-- B11: an axis's waypoints
unfoldable pub axis_waypoints : BuildInput → ℕ → List Float
axis_waypoints b axis = listed b.points (of_axis b.axes b.waypoints axis)

-- an axis's m numbers of a state
unfoldable pub axis_state : BuildInput → Option BoundaryState → List Float → ℕ → List Float
axis_state b state numbers axis = listed (m_of b.config.order) (boundary_number b.axes (accepted_record b).inv_ds state numbers axis)

-- B14: "the coefficients, by axis, then segment, then power". An axis's are a function of its own waypoints and numbers.
unfoldable pub table : BuildInput → List Float
table b = joined b.axes (λ axis.
    axis_coefficients (m_of b.config.order) (b.points - 2) (axis_waypoints b axis)
    (axis_state b b.config.start_state b.start axis)
    (axis_state b b.config.end_state b.end axis))

-- D1, D2a, B14, B16: the buffer afterwards: "The buffer holds the coefficients"; at a refusal "the buffer is untouched"
unfoldable pub buffer_after : BuildInput → List Float → List Float
buffer_after b before = cond (eqb (build_number b (length before)) 0) (table b) before
