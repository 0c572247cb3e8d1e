-- The query: document 01's questions before a query, the lookup, the evaluation of a segment, and the four buffers afterwards. Assumes nothing.
use Rattle.std.specs.Prelude.{◌≡◌, ℕ, zero, suc, ◌+◌, ◌*◌, ◌-◌, ◌/◌, ◌%◌, ◌^◌, Bool, false, cond, not, ◌&&◌, ◌||◌, List, [], ◌∷◌, ◌++◌, pos, negsuc, length, take, drop, leb, eqb, Result, Ok, Err, Float}
use Rattle.std.specs.Float.{nan, inf, fin, binary64}
use Rattle.std.specs.Float.Ieee.{lt, le, eq, is_nan}
use Rattle.rules.specs.declared.PathParam.{PathParam}
use Rattle.rules.specs.declared.SegmentUnits.{SegmentUnits}
use Rattle.rules.specs.declared.OutOfRangeMode.{OutOfRangeMode}
use Rattle.rules.specs.declared.OutOfRangeMode.TheVariants.{Error, Clamp}
use Rattle.rules.specs.declared.PathRecord.{PathRecord}
use Rattle.rules.specs.declared.SegmentTau.{SegmentTau}
use Rattle.rules.specs.declared.OutOfRange.{OutOfRange}
use Rattle.rules.specs.Floats.{◌⊕◌, ◌⊖◌, ◌⊗◌, ◌!◌, +0, +1, of_count}
use Rattle.law_lists.specs.Lists.{listed}
use Rattle.rules.specs.Questions.{Question, ask, first_no}
use Rattle.rules.specs.Fused.{fused}
use Rattle.rules.specs.Build.{valid_order, valid_axes, table_length, inv_ds_of, valid_range}

-- What a query is given, the four buffers aside. The level is document 01's word for how far the derivatives are asked for.
pub record QueryInput : Type 0 where
  pub path : PathRecord
  pub coefficients : List Float
  pub s : PathParam
  pub level : ℕ

abbrev pub query_of : PathRecord → List Float → PathParam → ℕ → QueryInput
query_of path coefficients s level = record { path = path; coefficients = coefficients; s = s; level = level }

-- The lengths of the four buffers.
pub record Lengths : Type 0 where
  pub q : ℕ
  pub dq : ℕ
  pub ddq : ℕ
  pub dddq : ℕ

-- The buffers: positions, first, second and third derivatives.
pub record Buffers : Type 0 where
  pub q : List Float
  pub dq : List Float
  pub ddq : List Float
  pub dddq : List Float

abbrev pub buffers : List Float → List Float → List Float → List Float → Buffers
buffers q dq ddq dddq = record { q = q; dq = dq; ddq = ddq; dddq = dddq }

abbrev pub lengths_of : Buffers → Lengths
lengths_of b = record { q = length b.q; dq = length b.dq; ddq = length b.ddq; dddq = length b.dddq }

-- ---- questions before a query. Derivative 0 is the position.

-- Q8: "level 0, 2 or 3"
unfoldable pub valid_level : ℕ → Bool
valid_level level = eqb level 0 || eqb level 2 || eqb level 3

-- Q13: "Level 0 writes positions, 2 adds first and second derivatives, 3 the third": whether a level writes derivative k
abbrev pub writes : ℕ → ℕ → Bool
writes level k = leb k level

-- Q9, Q14: "each buffer that the level writes as long as the axes": derivative k's buffer. "buffers above the level may have any length"
abbrev pub valid_length : ℕ → ℕ → ℕ → ℕ → Bool
valid_length axes level k cells = not (writes level k) || eqb cells axes

-- Q10: "s not NaN and, in mode Error, s_min ≤ s ≤ s_max"
unfoldable pub in_range : OutOfRangeMode → PathParam → PathParam → PathParam → Bool
in_range Error lo hi s = not (is_nan s.0) && le lo.0 s.0 && le s.0 hi.0
in_range Clamp lo hi s = not (is_nan s.0)

-- Q5, Q6: "question 8, and inv_ds equal to that quotient"
abbrev pub valid_path_range : PathRecord → Bool
valid_path_range p =
    let lo = p.s_min in
    let hi = p.s_max in
    valid_range p.segments lo hi && eq p.inv_ds (inv_ds_of p.segments lo hi)

-- the questions about a path with so many coefficients, in order
unfoldable pub path_questions : PathRecord → ℕ → List Question
path_questions p cells =
    ask (valid_order p.order) 302 ∷  -- Q1
    ask (leb 1 p.segments) 304 ∷  -- Q2
    ask (leb p.segments 256) 2 ∷  -- Q3
    ask (valid_axes p.axes) 300 ∷  -- Q4
    ask (valid_path_range p) 301 ∷  -- Q5, Q6
    ask (eqb cells (table_length p.axes p.segments p.order)) 303 ∷ []  -- Q7

-- about the level, and buffers of such lengths
unfoldable pub buffer_questions : ℕ → ℕ → Lengths → List Question
buffer_questions axes level n =
    let valid : ℕ → ℕ → Bool = valid_length axes level in
    ask (valid_level level) 308 ∷  -- Q8
    ask (valid 0 n.q && valid 1 n.dq && valid 2 n.ddq && valid 3 n.dddq) 2 ∷ []  -- Q9

-- about s
unfoldable pub range_questions : PathRecord → PathParam → List Question
range_questions p s = ask (in_range p.mode p.s_min p.s_max s) 305 ∷ []  -- Q10

-- all questions before a query
unfoldable pub query_questions : QueryInput → Lengths → List Question
query_questions i n = (path_questions i.path (length i.coefficients) ++ buffer_questions i.path.axes i.level n) ++ range_questions i.path i.s

unfoldable pub query_number : QueryInput → Lengths → ℕ
query_number i n = first_no (query_questions i n)

-- ---- the lookup

-- R21: "in Clamp, s is first set to the nearest end"
unfoldable pub clamped : OutOfRangeMode → PathParam → PathParam → PathParam → PathParam
clamped Error lo hi s = s
clamped Clamp lo hi s = cond (lt s.0 lo.0) lo (cond (lt hi.0 s.0) hi s)

-- R22: "scaled = (s − s_min) × inv_ds"
unfoldable pub scaled : PathRecord → PathParam → SegmentUnits
scaled p s = record { 0 = (s.0 ⊖ p.s_min.0) ⊗ p.inv_ds }

-- R25: "whole part and exact rest" of a number above 0, m × 2^k or m / 2^(k + 1) with m odd. The first has no rest; the second leaves a remainder, odd like m,
-- over 2^(k + 1). So the rest is the exact difference, and nothing rounds it.
-- (NaN has whole part 0 and rest NaN, as in the source. `located` asks for no infinity.)
unfoldable pub whole_part : Float → ℕ
whole_part nan = 0
whole_part (inf s) = 0
whole_part (fin s m (pos k)) = m * 2 ^ k
whole_part (fin s m (negsuc k)) = m / 2 ^ suc k

unfoldable pub exact_rest : Float → Float
exact_rest nan = nan
exact_rest (inf s) = nan
exact_rest (fin s m (pos k)) = +0
exact_rest (fin s m (negsuc k)) = fin false (m % 2 ^ suc k) (negsuc k)

-- R23, R24, R25: "At or below 0: segment 0, tau 0. At or above the segment count: last, tau 1. Else whole part and exact rest."
unfoldable pub located : ℕ → SegmentUnits → SegmentTau
located segments x =
    cond (le x.0 +0) (record { segment = 0; tau = record { 0 = +0 } })
    (cond (le (of_count segments) x.0) (record { segment = segments - 1; tau = record { 0 = +1 } })
    (record { segment = whole_part x.0; tau = record { 0 = exact_rest x.0 } }))

-- Q11, R21, R22: "The lookup answers a segment with its tau, or 305 with the s given."
unfoldable pub lookup : PathRecord → PathParam → Result SegmentTau OutOfRange
lookup p s =
    cond (in_range p.mode p.s_min p.s_max s)
    (Ok (located p.segments (scaled p (clamped p.mode p.s_min p.s_max s))))
    (Err (record { 0 = s }))

-- F11, Q11: document 01's number and values of each case of a lookup's answer: the value is tau, or the s that was refused.
pub record LookupSays : Type 0 where
  pub number : ℕ
  pub segment : ℕ
  pub value : Float

unfoldable pub lookup_says : Result SegmentTau OutOfRange → LookupSays
lookup_says (Ok at) = record { number = 0; segment = at.segment; value = at.tau.0 }
lookup_says (Err refused) = record { number = 305; segment = 0; value = refused.0.0 }

-- ---- the evaluation of a segment's coefficients a at t: derivative k in segment units

-- R26: the factor of coefficient j in derivative k, j × (j − 1) × .. of k factors: "order 5 second derivative: 20, 12, 6, 2"
unfoldable pub derivative_factor : ℕ → ℕ → ℕ
derivative_factor j zero = 1
derivative_factor j (suc k) = j * derivative_factor (j - 1) k

-- the factor times the coefficient; a factor of 1 is left out
unfoldable pub term : List Float → ℕ → ℕ → Float
term a k j = cond (eqb (derivative_factor j k) 1) (a ! j) (of_count (derivative_factor j k) ⊗ a ! j)

-- R26: "fused steps": from the last term down, what is found times t plus the term before, rounded once
unfoldable pub fused_steps : Float → List Float → Float
fused_steps t [] = +0
fused_steps t (x ∷ []) = x
fused_steps t (x ∷ (y ∷ rest)) = fused binary64 (fused_steps t (y ∷ rest)) t x

-- derivative k by fused steps: its terms are those of the coefficients k to order
unfoldable pub fused_derivative : ℕ → List Float → Float → ℕ → Float
fused_derivative order a t k = fused_steps t (listed (order + 1 - k) (λ j. term a k (k + j)))

-- the numbers of the general loop: the position, and the first three derivatives
pub record LoopState : Type 0 where
  pub b0 : Float
  pub b1 : Float
  pub b2 : Float
  pub b3 : Float

-- R27: "the general loop, product and sum rounded apart": from the last coefficient down, as the source's `eval_poly` has it
unfoldable pub general_loop : Float → List Float → LoopState
general_loop t [] = record { b0 = +0; b1 = +0; b2 = +0; b3 = +0 }
general_loop t (x ∷ []) = record { b0 = x; b1 = +0; b2 = +0; b3 = +0 }
general_loop t (x ∷ (y ∷ rest)) =
    let b = general_loop t (y ∷ rest) in
    record {
      b0 = b.b0 ⊗ t ⊕ x;
      b1 = b.b1 ⊗ t ⊕ b.b0;
      b2 = b.b2 ⊗ t ⊕ of_count 2 ⊗ b.b1;
      b3 = b.b3 ⊗ t ⊕ of_count 3 ⊗ b.b2;
    }

-- derivative k, up to the third
unfoldable pub loop_derivative : LoopState → ℕ → Float
loop_derivative b zero = b.b0
loop_derivative b (suc zero) = b.b1
loop_derivative b (suc (suc zero)) = b.b2
loop_derivative b (suc (suc (suc k))) = b.b3

-- R26, R27: "Orders 3 and 5 evaluate by fused steps"; "Order 7 uses the general loop"
unfoldable pub eval_poly : ℕ → List Float → Float → ℕ → Float
eval_poly order a t k = cond (eqb order 7) (loop_derivative (general_loop t a) k) (fused_derivative order a t k)

-- ---- the four buffers

-- R28: "Derivatives are then multiplied by inv_ds, by inv_ds², by inv_ds² × inv_ds."
unfoldable pub per_unit_of_s : Float → ℕ → Float → Float
per_unit_of_s inv zero x = x
per_unit_of_s inv (suc zero) x = x ⊗ inv
per_unit_of_s inv (suc (suc zero)) x = x ⊗ (inv ⊗ inv)
per_unit_of_s inv (suc (suc (suc k))) x = x ⊗ (inv ⊗ inv ⊗ inv)

-- a segment's coefficients, of a table "by axis, then segment, then power"
unfoldable pub segment_of : PathRecord → List Float → ℕ → ℕ → List Float
segment_of p coefficients axis segment =
    take (p.order + 1) (drop ((axis * p.segments + segment) * (p.order + 1)) coefficients)

-- derivative k of each axis
unfoldable pub derivative : QueryInput → ℕ → List Float
derivative i k =
    let p = i.path in
    let found = lookup_says (lookup p i.s) in
    listed p.axes (λ axis.
    per_unit_of_s p.inv_ds k (eval_poly p.order (segment_of p i.coefficients axis found.segment) found.value k))

-- Q12, Q13, Q14: derivative k's buffer afterwards. "Refused: no output buffer changes"; "buffers above the level .. are untouched"
unfoldable pub derivative_after : QueryInput → Lengths → ℕ → List Float → List Float
derivative_after i n k before = cond (eqb (query_number i n) 0 && writes i.level k) (derivative i k) before

-- D1, D2a, Q12: what a query answers, and the buffers that it leaves
pub record Queried (i : QueryInput) (before : Buffers) (number : ℕ) (after : Buffers) : Type 0 where
  pub number_is : number ≡ query_number i (lengths_of before)
  pub q_is : after.q ≡ derivative_after i (lengths_of before) 0 before.q
  pub dq_is : after.dq ≡ derivative_after i (lengths_of before) 1 before.dq
  pub ddq_is : after.ddq ≡ derivative_after i (lengths_of before) 2 before.ddq
  pub dddq_is : after.dddq ≡ derivative_after i (lengths_of before) 3 before.dddq
