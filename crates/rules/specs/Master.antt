-- The check of masters, module 7 of document 01: its questions, its endpoint and joint equations over ℤ, and its answer. A master is the paper's word for
-- a curve kept in whole numbers, a set its word for all that one check is given, a joint for the point where two segments meet. Assumes nothing.
use Rattle.std.specs.Prelude.{◌≡◌, ℕ, zero, suc, ◌+◌, ◌*◌, ◌-◌, ◌^◌, ◌<◌, Bool, true, false, not, ◌&&◌, List, [], ◌∷◌, ◌++◌, ℤ, pos, negsuc, nat_abs, ◌+ℤ◌, ◌*ℤ◌, length, get_or, leb, eqb, Result, Ok, Err}
use Rattle.rules.specs.declared.PathError.{PathError}
use Rattle.law_lists.specs.Lists.{all, every}
use Rattle.rules.specs.Questions.{Question, ask, first_no, number_of}
use Rattle.rules.specs.Tables.{m_of}
use Rattle.rules.specs.Build.{valid_order}

-- M9: "A set is all that one check is given: order, waypoints, start state, end state and table."
pub record MasterSet : Type 0 where
  pub order : ℕ
  pub waypoints : List ℤ
  pub start : List ℤ
  pub end : List ℤ
  pub table : List ℤ

-- the set of one call: order, waypoints, start, end, table
abbrev pub set_of : ℕ → List ℤ → List ℤ → List ℤ → List ℤ → MasterSet
set_of order waypoints start end table = record { order = order; waypoints = waypoints; start = start; end = end; table = table }

-- ---- questions before a master check

-- M7: "within ±1,099,511,627,776, which is 2^40"
unfoldable pub within : ℤ → Bool
within z = leb (nat_abs z) (2 ^ 40)

-- the questions that every routine on masters asks first: about the order and the number of waypoints
unfoldable pub size_questions : ℕ → ℕ → List Question
size_questions order points =
    ask (valid_order order) 302 ∷  -- M1
    ask (leb 2 points) 304 ∷  -- M2
    ask (leb points 257) 2 ∷ []  -- M3

-- about the lengths of a set's states and of its table
unfoldable pub length_questions : MasterSet → List Question
length_questions s =
    let m = m_of s.order in
    let points = length s.waypoints in
    ask (eqb (length s.start) m) 303 ∷  -- M4
    ask (eqb (length s.end) m) 303 ∷  -- M5
    ask (eqb (length s.table) ((points - 1) * (s.order + 1))) 2 ∷ []  -- M6

-- about its numbers
unfoldable pub number_questions : MasterSet → List Question
number_questions s = ask (all within s.waypoints && all within s.start && all within s.end && all within s.table) 4 ∷ []  -- M7

-- all questions before a master check, in order
unfoldable pub master_questions : MasterSet → List Question
master_questions s = size_questions s.order (length s.waypoints) ++ length_questions s ++ number_questions s

unfoldable pub master_number : MasterSet → ℕ
master_number s = first_no (master_questions s)

-- ---- the equations

-- the number at a place
abbrev pub at : List ℤ → ℕ → ℤ
at zs i = get_or zs i (pos 0)

-- coefficient k of segment i, where a segment has 2m + 2 of them
abbrev pub coefficient : ℕ → List ℤ → ℕ → ℕ → ℤ
coefficient m table i k = at table (i * (2 * m + 2) + k)

-- R35: "C(k,r) the binomial"
unfoldable pub binomial : ℕ → ℕ → ℕ
binomial k zero = 1
binomial zero (suc r) = 0
binomial (suc k) (suc r) = binomial k r + binomial k (suc r)

-- f 0 + f 1 + .. + f (n − 1)
unfoldable pub sumℤ : ℕ → (ℕ → ℤ) → ℤ
sumℤ zero f = pos 0
sumℤ (suc n) f = sumℤ n f +ℤ f n

-- R35: "the sum of C(k,r) × coefficient k" of segment i: coefficient r of the segment taken about its end. At r = 0 it is their plain sum.
unfoldable pub at_end : ℕ → List ℤ → ℕ → ℕ → ℤ
at_end m table i r = sumℤ (2 * m + 2) (λ k. pos (binomial k r) *ℤ coefficient m table i k)

-- two whole numbers are the same
unfoldable pub same : ℤ → ℤ → Bool
same (pos a) (pos b) = eqb a b
same (pos a) (negsuc b) = false
same (negsuc a) (pos b) = false
same (negsuc a) (negsuc b) = eqb a b

-- A table of n segments. What document 01 counts from 1, a state's numbers and a joint's r, is suc r here.
module _ (m n : ℕ) (table : List ℤ) where
  -- R36: "in every segment, coefficient 0 is its left waypoint"
  unfoldable pub meets_left : List ℤ → Bool
  meets_left w = every n (λ i. same (coefficient m table i 0) (at w i))

  -- R37: "and the coefficients sum to its right one"
  unfoldable pub meets_right : List ℤ → Bool
  meets_right w = every n (λ i. same (at_end m table i 0) (at w (suc i)))

  -- R38: "coefficients 1 to m of the first segment are the start state"
  unfoldable pub meets_start : List ℤ → Bool
  meets_start start = every m (λ r. same (coefficient m table 0 (suc r)) (at start r))

  -- R39: "in the last, the sum of C(k,r) × coefficient k is end number r, r = 1 to m"
  unfoldable pub meets_end : List ℤ → Bool
  meets_end end = every m (λ r. same (at_end m table (n - 1) (suc r)) (at end r))

  -- R40: "at each joint that sum .. is coefficient r of the next segment", for r = 1 to the number given
  unfoldable pub meets_joints : ℕ → Bool
  meets_joints up_to = every (n - 1) (λ i. every up_to (λ r. same (at_end m table i (suc r)) (coefficient m table (suc i) (suc r))))

abbrev pub segments : MasterSet → ℕ
segments s = length s.waypoints - 1

-- "Endpoint equations"
unfoldable pub endpoint_equations : MasterSet → Bool
endpoint_equations s =
    let m = m_of s.order in
    meets_left m (segments s) s.table s.waypoints
    && meets_right m (segments s) s.table s.waypoints
    && meets_start m (segments s) s.table s.start
    && meets_end m (segments s) s.table s.end

-- R40: "Joint equations": "r = 1 to 2m"
unfoldable pub joint_equations : MasterSet → Bool
joint_equations s =
    let m = m_of s.order in
    meets_joints m (segments s) s.table (2 * m)

-- The same equations with `≡` for the tests. `yes_iff` of proofs/Master.antt: the check says yes to a set exactly where no question refuses it and they hold.
pub record Equations (s : MasterSet) : Type 0 where
  pub left : (i : ℕ) → i < segments s → coefficient (m_of s.order) s.table i 0 ≡ at s.waypoints i
  pub right : (i : ℕ) → i < segments s → at_end (m_of s.order) s.table i 0 ≡ at s.waypoints (suc i)
  pub start : (r : ℕ) → r < m_of s.order → coefficient (m_of s.order) s.table 0 (suc r) ≡ at s.start r
  pub end : (r : ℕ) → r < m_of s.order → at_end (m_of s.order) s.table (segments s - 1) (suc r) ≡ at s.end r
  pub joint : (i : ℕ) → i < segments s - 1 → (r : ℕ) → r < 2 * m_of s.order
      → at_end (m_of s.order) s.table i (suc r) ≡ coefficient (m_of s.order) s.table (suc i) (suc r)

-- ---- the answer

-- F11, M8: "Then yes or no; no is not a refusal": what an answer says in document 01's terms. The number is 0 for yes and for no. No two answers say the
-- same: `says_decides` of proofs/Master.antt.
pub record MasterSays : Type 0 where
  pub refused : Bool
  pub number : ℕ
  pub good : Bool

unfoldable pub master_says : Result Bool PathError → MasterSays
master_says (Ok good) = record { refused = false; number = 0; good = good }
master_says (Err error) = record { refused = true; number = number_of error; good = false }

-- D1, D2c, M8: refused by the first no of the questions, else yes exactly where all the equations hold
unfoldable pub check_master : MasterSet → MasterSays
check_master s =
    let number = master_number s in
    record { refused = not (eqb number 0); number = number; good = eqb number 0 && endpoint_equations s && joint_equations s }
