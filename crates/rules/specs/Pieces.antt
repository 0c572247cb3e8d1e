-- The trial pieces of document 01 that are starred, a to l, as one list, and what it is for a piece to hold of the definitions. `starred_hold` of
-- proofs/Pieces.antt is the single claim about all of them. A second list, `further`, has the pieces m, n and o, and a piece for each rule that no piece tells.
-- Assumes nothing.
use Rattle.std.specs.Prelude.{ℕ, ◌+◌, ◌-◌, ◌/◌, ◌^◌, Bool, true, false, not, ◌&&◌, ◌||◌, List, [], ◌∷◌, map, ℤ, pos, negsuc, length, replicate, eqb, Option, None, Float}
use Rattle.std.specs.Bool.{beq}
use Rattle.std.specs.Float.{nan, fin, binary64}
use Rattle.std.specs.Float.Ieee.{eq, to_bits}
use Rattle.rules.specs.declared.OutOfRangeMode.{OutOfRangeMode}
use Rattle.rules.specs.declared.OutOfRangeMode.TheVariants.{Error, Clamp}
use Rattle.rules.specs.declared.BoundaryState.{BoundaryState}
use Rattle.rules.specs.Floats.{◌!◌, +0, of_count, of_ints}
use Rattle.law_lists.specs.Lists.{joined, every}
use Rattle.rules.specs.Fused.{fused}
use Rattle.rules.specs.Tables.{m_of, neg}
use Rattle.rules.specs.Solve.{pivot_row}
use Rattle.rules.specs.Build.{BuildInput, given, table_length, build_number, build_answer, buffer_after}
use Rattle.rules.specs.Query.{QueryInput, Lengths, query_number, derivative_after, lookup, lookup_says}
use Rattle.rules.specs.Master.{MasterSet, check_master, endpoint_equations, meets_joints}

-- ---- pieces, and what it is to hold

pub data Piece : Type 0 where
  -- a build, and its coefficients
  built : BuildInput → List Float → Piece
  -- a check that is not refused, and whether it says yes
  checked : MasterSet → Bool → Piece
  -- a query at level 3 of what a build of one axis gives: s, the position, and the first, second and third derivatives
  queried : BuildInput → Float → List Float → Piece
  -- a fused step, and its result
  stepped : Float → Float → Float → Float → Piece
  -- a lookup in what a build gives: s, the segment and tau
  found : BuildInput → Float → ℕ → Float → Piece
  -- a whole number that a rule gives, and the one that it should be
  answered : ℕ → ℕ → Piece
  -- a set that the check says yes to, and whose table a build from its points and states gives
  rebuilt : MasterSet → Piece
  -- a set that meets the endpoint equations and the joint equations up to r = m alone, and that the check says no to
  loose : MasterSet → Piece

-- a build on the range from 0 to hi: so many axes, their waypoints, and both states with their numbers
unfoldable pub input : ℕ → ℕ → OutOfRangeMode → ℕ → List Float → Option BoundaryState → List Float → Option BoundaryState → List Float → BuildInput
input order hi mode axes waypoints first start last end = record {
  config = record {
    order = order;
    s_min = record { 0 = +0 };
    s_max = record { 0 = of_count hi };
    out_of_range_mode = mode;
    start_state = first;
    end_state = last;
  };
  points = length waypoints / axes;
  axes = axes;
  waypoints = waypoints;
  start = start;
  end = end;
}

-- a build from a set's points and states, not marked
unfoldable pub build_of : MasterSet → BuildInput
build_of s =
    let state = given 1 (m_of s.order) false in
    input s.order 1 Error 1 (of_ints s.waypoints) state (of_ints s.start) state (of_ints s.end)

-- the very value: the same bits
unfoldable pub exactly : Float → Float → Bool
exactly x y = eqb (to_bits binary64 x) (to_bits binary64 y)

-- P2: "In a to h a plain 0 is either zero"
unfoldable pub alike : Float → Float → Bool
alike x y = exactly x y || (eq x +0 && eq y +0)

unfoldable pub all_alike : List Float → List Float → Bool
all_alike xs ys = eqb (length xs) (length ys) && every (length ys) (λ i. alike (xs ! i) (ys ! i))

-- a build into a buffer that held something else
unfoldable pub table_of : BuildInput → ℕ → List Float
table_of b cells = buffer_after b (replicate cells nan)

-- the query of what a build of one axis gives, and buffers of one cell
unfoldable pub query_of : BuildInput → Float → QueryInput
query_of b s =
    let cells = table_length 1 (b.points - 1) b.config.order in
    record { path = (build_answer b cells).path; coefficients = table_of b cells; s = record { 0 = s }; level = 3 }

unfoldable pub one_each : Lengths
one_each = record { q = 1; dq = 1; ddq = 1; dddq = 1 }

unfoldable pub holds : Piece → Bool
holds (built b coefficients) =
    eqb (build_number b (length coefficients)) 0 && all_alike (table_of b (length coefficients)) coefficients
holds (checked s good) = eqb (check_master s).number 0 && beq (check_master s).good good
holds (queried b s values) =
    eqb (query_number (query_of b s) one_each) 0
    && all_alike (joined 4 (λ k. derivative_after (query_of b s) one_each k (nan ∷ []))) values
holds (stepped a b c r) = exactly (fused binary64 a b c) r
holds (found b s segment tau) =
    let says = lookup_says (lookup (query_of b s).path (record { 0 = s })) in
    eqb says.number 0 && eqb says.segment segment && exactly says.value tau
holds (answered number expected) = eqb number expected
holds (rebuilt s) = (check_master s).good && all_alike (table_of (build_of s) (length s.table)) (of_ints s.table)
holds (loose s) =
    let m = m_of s.order in
    endpoint_equations s && meets_joints m (length s.waypoints - 1) s.table m
    && eqb (check_master s).number 0 && not (check_master s).good

-- ---- the numbers of the pieces

-- m / 2^k, for an odd m and a k above 0
infix 50 ◌÷2^◌
abbrev pub ◌÷2^◌ : ℕ → ℕ → Float
m ÷2^ k = fin false m (negsuc (k - 1))

abbrev pub of_nats : List ℕ → List Float
of_nats ns = map of_count ns

-- one axis on the range from 0 to hi, with the end state none
unfoldable pub curve : ℕ → ℕ → List ℕ → Option BoundaryState → List ℕ → OutOfRangeMode → BuildInput
curve order hi waypoints state start mode = input order hi mode 1 (of_nats waypoints) state (of_nats start) None []

-- "States zero unless said."
unfoldable pub at_rest : ℕ → ℕ → List ℕ → BuildInput
at_rest order hi waypoints = curve order hi waypoints None [] Error

-- with a start state, not marked
unfoldable pub starting : ℕ → List ℕ → List ℕ → BuildInput
starting order waypoints start = curve order 1 waypoints (given 1 (length start) false) start Error

-- a set with the points and the end state of piece d
unfoldable pub set_of_d : ℤ → List ℤ → MasterSet
set_of_d start table = record { order = 3; waypoints = pos 0 ∷ pos 4 ∷ pos 8 ∷ []; start = start ∷ []; end = pos 0 ∷ []; table = table }

-- "greatest", and the same below 0
unfoldable pub greatest : Bool → Float
greatest negative = fin negative (2 ^ 53 - 1) (pos 971)

-- ---- the starred pieces

-- P1: "Those with a star are the proved set."
unfoldable pub starred : List Piece
starred =
    -- a
    built (at_rest 3 1 (0 ∷ 1 ∷ [])) (of_ints (pos 0 ∷ pos 0 ∷ pos 3 ∷ neg 2 ∷ [])) ∷
    -- b
    built (at_rest 5 1 (0 ∷ 1 ∷ [])) (of_ints (pos 0 ∷ pos 0 ∷ pos 0 ∷ pos 10 ∷ neg 15 ∷ pos 6 ∷ [])) ∷
    -- c
    built (at_rest 7 1 (0 ∷ 1 ∷ [])) (of_ints (pos 0 ∷ pos 0 ∷ pos 0 ∷ pos 0 ∷ pos 35 ∷ neg 84 ∷ pos 70 ∷ neg 20 ∷ [])) ∷
    -- d
    built (at_rest 3 1 (0 ∷ 4 ∷ 8 ∷ [])) (of_ints (pos 0 ∷ pos 0 ∷ pos 6 ∷ neg 2 ∷ pos 4 ∷ pos 6 ∷ pos 0 ∷ neg 2 ∷ [])) ∷
    -- e
    checked (set_of_d (pos 0) (pos 0 ∷ pos 0 ∷ pos 6 ∷ neg 2 ∷ pos 4 ∷ pos 6 ∷ pos 0 ∷ neg 2 ∷ [])) true ∷
    checked (set_of_d (pos 0) (pos 0 ∷ pos 0 ∷ pos 6 ∷ neg 2 ∷ pos 4 ∷ pos 6 ∷ pos 0 ∷ neg 1 ∷ [])) false ∷
    -- f
    built (at_rest 5 1 (0 ∷ 3 ∷ 0 ∷ []))
    (of_ints (pos 0 ∷ pos 0 ∷ pos 0 ∷ pos 20 ∷ neg 25 ∷ pos 8 ∷ pos 3 ∷ pos 0 ∷ neg 10 ∷ pos 0 ∷ pos 15 ∷ neg 8 ∷ [])) ∷
    -- g
    built (starting 5 (0 ∷ 0 ∷ []) (1 ∷ 0 ∷ [])) (of_ints (pos 0 ∷ pos 1 ∷ pos 0 ∷ neg 6 ∷ pos 8 ∷ neg 3 ∷ [])) ∷
    -- h: d on range 0 to 2, s 0.5: 1.25, 4.5, 6, −12. On 0 to 1, s 0.25: 1.25, 9, 24, −96
    queried (at_rest 3 2 (0 ∷ 4 ∷ 8 ∷ [])) (1 ÷2^ 1) ((5 ÷2^ 2) ∷ (9 ÷2^ 1) ∷ of_ints (pos 6 ∷ neg 12 ∷ [])) ∷
    queried (at_rest 3 1 (0 ∷ 4 ∷ 8 ∷ [])) (1 ÷2^ 2) ((5 ÷2^ 2) ∷ of_ints (pos 9 ∷ pos 24 ∷ neg 96 ∷ [])) ∷
    -- i: (1 + 2^−30), (1 − 2^−30), −1: −2^−60
    stepped ((2 ^ 30 + 1) ÷2^ 30) ((2 ^ 30 - 1) ÷2^ 30) (fin true 1 (pos 0)) (fin true 1 (negsuc 59)) ∷
    -- j: 2, 3, −6: +0
    stepped (fin false 1 (pos 1)) (fin false 3 (pos 0)) (fin true 3 (pos 1)) +0 ∷
    -- k: −1, 0, −0: −0
    stepped (fin true 1 (pos 0)) +0 (fin true 0 (pos 0)) (fin true 0 (pos 0)) ∷
    -- l: greatest, 2, −greatest: greatest
    stepped (greatest false) (fin false 1 (pos 1)) (greatest true) (greatest false) ∷ []

-- ---- the pieces that are not starred, and what no piece tells

unfoldable pub further : List Piece
further =
    -- P3: piece m, range 0 to 49, points 0 1, s 49: tau 1 − 2^−53, not 1; Clamp with s 60 the same
    found (at_rest 3 49 (0 ∷ 1 ∷ [])) (of_count 49) 0 ((2 ^ 53 - 1) ÷2^ 53) ∷
    found (curve 3 49 (0 ∷ 1 ∷ []) None [] Clamp) (of_count 60) 0 ((2 ^ 53 - 1) ÷2^ 53) ∷
    -- P4: piece n, range 0 to 2, points 0 1, order 3, start 3 per unit of s: coefficient 1 is 6
    built (curve 3 2 (0 ∷ 1 ∷ []) (given 1 1 true) (3 ∷ []) Error) (of_ints (pos 0 ∷ pos 6 ∷ neg 9 ∷ pos 4 ∷ [])) ∷
    -- P5: piece o, all but the 257 points that are accepted: one more gives 2; 1 point 304; order 4 with 1 point 302; s NaN 305 in both modes;
    -- state number 2^40 + 1 in a check 4
    answered (build_number (at_rest 3 1 (replicate 258 0)) (table_length 1 257 3)) 2 ∷
    answered (build_number (at_rest 3 1 (0 ∷ [])) 0) 304 ∷
    answered (build_number (at_rest 4 1 (0 ∷ [])) 0) 302 ∷
    answered (query_number (query_of (at_rest 3 1 (0 ∷ 1 ∷ [])) nan) one_each) 305 ∷
    answered (query_number (query_of (curve 3 1 (0 ∷ 1 ∷ []) None [] Clamp) nan) one_each) 305 ∷
    answered (check_master (set_of_d (pos (2 ^ 40 + 1)) (pos 0 ∷ pos 0 ∷ pos 6 ∷ neg 2 ∷ pos 4 ∷ pos 6 ∷ pos 0 ∷ neg 2 ∷ []))).number 4 ∷
    -- "Halving the second state number": g with the start 0 1. In g itself that number is 0, and so is half of it.
    built (starting 5 (0 ∷ 0 ∷ []) (0 ∷ 1 ∷ [])) (of_ints (pos 0 ∷ pos 0 ∷ pos 1 ∷ neg 3 ∷ pos 3 ∷ neg 1 ∷ [])) ∷
    -- "Joints checked only to r = m: smooth to the eye, not unique": a second table for the points and states of d
    loose (set_of_d (pos 0) (pos 0 ∷ pos 0 ∷ pos 12 ∷ neg 8 ∷ pos 4 ∷ pos 0 ∷ pos 12 ∷ neg 8 ∷ [])) ∷
    -- both states at inner nodes, and more than one inner node: sets of order 3, 5 and 7
    rebuilt (record {
      order = 3;
      waypoints = pos 1 ∷ pos 5 ∷ pos 18 ∷ pos 29 ∷ [];
      start = pos 2 ∷ [];
      end = pos 11 ∷ [];
      table =
          pos 1 ∷ pos 2 ∷ neg 1 ∷ pos 3 ∷
          pos 5 ∷ pos 9 ∷ pos 8 ∷ neg 4 ∷
          pos 18 ∷ pos 13 ∷ neg 4 ∷ pos 2 ∷ [];
    }) ∷
    rebuilt (record {
      order = 5;
      waypoints = pos 0 ∷ pos 1 ∷ neg 41 ∷ [];
      start = pos 1 ∷ pos 2 ∷ [];
      end = neg 106 ∷ neg 90 ∷ [];
      table =
          pos 0 ∷ pos 1 ∷ pos 2 ∷ neg 1 ∷ pos 1 ∷ neg 2 ∷
          pos 1 ∷ neg 4 ∷ neg 15 ∷ neg 17 ∷ neg 9 ∷ pos 3 ∷ [];
    }) ∷
    rebuilt (record {
      order = 7;
      waypoints = pos 2 ∷ pos 5 ∷ [];
      start = neg 1 ∷ pos 1 ∷ pos 3 ∷ [];
      end = pos 14 ∷ pos 29 ∷ pos 40 ∷ [];
      table = pos 2 ∷ neg 1 ∷ pos 1 ∷ pos 3 ∷ neg 2 ∷ pos 1 ∷ pos 0 ∷ pos 1 ∷ [];
    }) ∷
    -- two axes, column-major: points 0 1 with the start 0 1, beside points 0 0 at rest
    built (input 5 1 Error 2 (of_nats (0 ∷ 0 ∷ 1 ∷ 0 ∷ [])) (given 2 2 false) (of_nats (0 ∷ 0 ∷ 1 ∷ 0 ∷ [])) None [])
    (of_ints (pos 0 ∷ pos 0 ∷ pos 1 ∷ pos 7 ∷ neg 12 ∷ pos 5 ∷ pos 0 ∷ pos 0 ∷ pos 0 ∷ pos 0 ∷ pos 0 ∷ pos 0 ∷ [])) ∷
    -- "divided by inv_ds r + 1 times": range 0 to 2, start 0 3 per unit of s, so coefficient 2 is 12
    built (curve 5 2 (0 ∷ 0 ∷ []) (given 1 2 true) (0 ∷ 3 ∷ []) Error) (of_ints (pos 0 ∷ pos 0 ∷ pos 12 ∷ neg 36 ∷ pos 36 ∷ neg 12 ∷ [])) ∷
    -- orders 5 and 7 in a query: b and c at s 0.25
    queried (at_rest 5 1 (0 ∷ 1 ∷ [])) (1 ÷2^ 2) ((53 ÷2^ 9) ∷ (135 ÷2^ 7) ∷ (45 ÷2^ 3) ∷ fin true 15 (negsuc 0) ∷ []) ∷
    queried (at_rest 7 1 (0 ∷ 1 ∷ [])) (1 ÷2^ 2) ((289 ÷2^ 12) ∷ (945 ÷2^ 10) ∷ (945 ÷2^ 7) ∷ (315 ÷2^ 5) ∷ []) ∷
    -- "first of equals": 1 above −1
    answered (pivot_row 2 (of_ints (pos 1 ∷ pos 2 ∷ neg 1 ∷ pos 3 ∷ [])) 0 1) 0 ∷ []
