-- What the pass over the table asks and answers is what the definition does: `number_is`, the questions; `met_is`, the equations; `left_next` and `none_left`,
-- the table's range. Assumes nothing.
use mathlib.Core.Path.{◌≡◌, refl, sym, ap, ◌∙◌, subst}
use mathlib.Core.Bool.{Bool, true, false, not, cond, ◌&&◌}
use mathlib.Core.List.{List, [], ◌∷◌, ◌++◌}
use mathlib.Core.Logic.{◌⊎◌, inl, inr}
use Prim.Native.Nat.{ℕ, suc, ◌+◌, ◌-◌, ◌*◌, ◌<◌, ◌≤◌}
use native.Mathlib.Nat.{eq-or-lt_of_le, zero-mul}
use native.Mathlib.Omega.{arith}
use lib.Dec.{T, eqb, eqb→eq, leb→le, lit≤}
use lib.IntN.{ℤ}
use lib.ListN.{length, drop}
use lib.Seq.{drop-drop}
use lib.Ieee.Fits.{and_i, and_l, and_r}
use borrow.Author.Tests.{eq-eqb, ne_eqb}
use Rattle.std.specs.Prelude.{Result, Ok, Err, IsErrAnd}
use Rattle.std.proofs.lemmas.Result.{err_from_is_err_and}
use Rattle.rules.specs.declared.PathError.{PathError}
use Rattle.rules.specs.declared.PathError.TheVariants.{InvalidArgument}
use Rattle.law_lists.specs.Lists.{all, every}
use Rattle.rules.specs.Questions.{Question, ask, first_no, number_of}
use Rattle.rules.specs.Tables.{m_of}
use Rattle.rules.specs.Master.{MasterSet, set_of, Equations, within, same, at, coefficient, at_end, segments, meets_start}
use Rattle.rules.specs.Master.{MasterSays, master_questions, size_questions, length_questions, number_questions, master_number, master_says}
use Rattle.rules.specs.Master.{endpoint_equations, joint_equations, check_master}
use Rattle.law_rounding.proofs.Sums.{same_test, and_true}
use Rattle.law_lists.proofs.Lists.{every_at, every_of, every_more, and_assoc, all_split, all_none_left}
use Rattle.law_lists.proofs.Places.{next_part}
use Rattle.rules.proofs.Build.{by_order, coefficient_count}
use Rattle.rules.proofs.Questions.{numbered, never, answer_at, said_yes, number-not_zero}
use Rattle.rules.proofs.Master.{same→eq, eq→same, to_equations, of_equations}
use Rattle.master_equations.specs.Segment.{Shaped, segment_meets}
use Rattle.master_segments.specs.Answer.{segment_part, segment_says}
use Rattle.master_segments.proofs.SegmentSays.{segment_out, was_out, was_within, was_good}
use Rattle.master_questions.specs.Asked.{questions_before}
use Rattle.master.specs.Pass.{meets_up_to, pass_says}

-- ---- the questions

-- a last question asked in two halves: where the rest and its first half say yes, its second half decides
in_halves : (qs : List Question) (a b : Bool) → T (numbered qs) → first_no (qs ++ (ask (a && b) 4 ∷ []))
    ≡ (let n = first_no (qs ++ (ask a 4 ∷ [])) in cond (eqb n 0) (cond b 0 4) n)
unfolding first_no
in_halves [] true true h = refl
in_halves [] true false h = refl
in_halves [] false b h = refl
in_halves (ask true n ∷ qs) a b h = in_halves qs a b (and_r (not (eqb n 0)) (numbered qs) h)
in_halves (ask false n ∷ qs) a b h = sym (ap (λ (t : Bool). cond t (cond b 0 4) n) (ne_eqb n 0 (never n (numbered qs) h)))

-- the number of all questions, by that of the questions but for the table's numbers
pub number_is : (s : MasterSet) → master_number s ≡ (let n = first_no (questions_before s) in cond (eqb n 0) (cond (all within s.table) 0 4) n)
unfolding master_number master_questions size_questions length_questions number_questions questions_before
number_is s =
    in_halves (size_questions s.order (length s.waypoints) ++ length_questions s)
    (all within s.waypoints && all within s.start && all within s.end) (all within s.table) tt

-- where those say yes, the lengths are as they have to be
pub shaped : (s : MasterSet) → first_no (questions_before s) ≡ 0
    → Shaped (m_of s.order) s.waypoints s.end s.table × (length s.start ≡ m_of s.order)
unfolding questions_before master_questions size_questions length_questions number_questions
shaped s e =
    let yes : (k : ℕ) → T (answer_at (questions_before s) k) = said_yes (questions_before s) tt e in
    let least-most = by_order (λ order. (1 ≤ m_of order) × (m_of order ≤ 3)) (lit≤ tt, lit≤ tt) (lit≤ tt, lit≤ tt) (lit≤ tt, lit≤ tt) s.order (yes 0) in (
      record {
        least_m = least-most.0;
        most_m = least-most.1;
        least = leb→le 2 _ (yes 1);
        most = leb→le _ 257 (yes 2);
        end_is = eqb→eq _ _ (yes 4);
        table_is = eqb→eq _ _ (yes 5) ∙ ap (λ (k : ℕ). segments s * k) (sym (coefficient_count s.order (yes 0)));
      },
      eqb→eq _ _ (yes 3),
    )

-- ---- the equations

module _ (s : MasterSet) (two : 2 ≤ length s.waypoints) where
  abbrev m : ℕ
  m = m_of s.order

  abbrev n : ℕ
  n = segments s

  abbrev w : List ℤ
  w = s.waypoints

  abbrev c : ℕ → ℕ → ℤ
  c = coefficient m s.table

  abbrev sum : ℕ → ℕ → ℤ
  sum = at_end m s.table

  -- what a segment's end is held to
  abbrev end_state_of : ℕ → Bool
  end_state_of i = every m (λ r. same (sum i (suc r)) (at s.end r))

  abbrev joint : ℕ → Bool
  joint i = every (2 * m) (λ r. same (sum i (suc r)) (c (suc i) (suc r)))

  abbrev is_last : ℕ → Bool
  is_last i = eqb (i + 2) (length w)

  abbrev ended : ℕ → Bool
  ended i = cond (is_last i) (end_state_of i) (joint i)

  abbrev left : ℕ → Bool
  left i = same (c i 0) (at w i)

  abbrev right : ℕ → Bool
  right i = same (sum i 0) (at w (suc i))

  -- the last segment, and any before it
  ended_last : ended (n - 1) ≡ end_state_of (n - 1)
  ended_last = rw (eq-eqb (n - 1 + 2) (length w) (omega arith))

  ended_before : (i : ℕ) → i < n - 1 → ended i ≡ joint i
  ended_before i h = rw (ne_eqb (i + 2) (length w) (λ e. omega arith))

  to : T (meets_up_to m w s.start s.end s.table n) → Equations s
  unfolding meets_up_to segment_meets meets_start
  to t =
      let each : (i : ℕ) → i < n → T (left i && right i && ended i) = every_at n _ (and_r (meets_start m n s.table s.start) _ t) in
      record {
        left = λ i h. same→eq _ _ (and_l (left i) (right i) (and_l (left i && right i) (ended i) (each i h)));
        right = λ i h. same→eq _ _ (and_r (left i) (right i) (and_l (left i && right i) (ended i) (each i h)));
        start = λ r h. same→eq _ _ (every_at m _ (and_l (meets_start m n s.table s.start) _ t) r h);
        end = λ r h. same→eq _ _ (every_at m _ (subst T ended_last (and_r (left (n - 1) && right (n - 1)) (ended (n - 1)) (each (n - 1) (omega arith)))) r h);
        joint = λ i h r k. same→eq _ _ (every_at (2 * m) _ (subst T (ended_before i h) (and_r (left i && right i) (ended i) (each i (omega arith)))) r k);
      }

  from : Equations s → T (meets_up_to m w s.start s.end s.table n)
  unfolding meets_up_to segment_meets meets_start
  from q =
      and_i (meets_start m n s.table s.start) (every n _) (every_of m _ (λ r h. eq→same _ _ (q.start r h)))
      (every_of n _ (λ i h.
      and_i (left i && right i) (ended i)
      (and_i (left i) (right i) (eq→same _ _ (q.left i h)) (eq→same _ _ (q.right i h)))
      (last_or_before i (eq-or-lt_of_le (omega arith)))))
    where
      last_or_before : (i : ℕ) → (i ≡ n - 1) ⊎ (i < n - 1) → T (ended i)
      last_or_before i (inl e) = subst (λ (j : ℕ). T (ended j)) (sym e) (subst T (sym ended_last) (every_of m _ (λ r k. eq→same _ _ (q.end r k))))
      last_or_before i (inr l) = subst T (sym (ended_before i l)) (every_of (2 * m) _ (λ r k. eq→same _ _ (q.joint i l r k)))

  -- the equations in the order of the pass are those of the definition
  pub met_is : meets_up_to m w s.start s.end s.table n ≡ (endpoint_equations s && joint_equations s)
  met_is =
      same_test _ _ (λ t. let q = of_equations s (to t) in and_i (endpoint_equations s) (joint_equations s) q.0 q.1)
      (λ t. from (to_equations s (and_l (endpoint_equations s) (joint_equations s) t) (and_r (endpoint_equations s) (joint_equations s) t)))

-- ---- the range of the table, as the loop over its segments asks it

-- the range of what is left at segment i: its own part, and what is left after it
pub left_next : (m : ℕ) (table : List ℤ) (i : ℕ) {b : Bool} → all within (segment_part m table i) ≡ b
    → all within (drop (i * (2 * m + 2)) table) ≡ (b && all within (drop ((i + 1) * (2 * m + 2)) table))
unfolding segment_part
left_next m table i e =
    let k = 2 * m + 2 in
    let at = i * k in
    all_split within k (drop at table)
    ∙ rw (next_part k i, drop-drop k at table, e)

-- behind the last segment nothing is left
pub none_left : {m : ℕ} {w end table : List ℤ} → Shaped m w end table → {i : ℕ} → i ≤ length w - 1 → length w - 1 ≤ i
    → all within (drop (i * (2 * m + 2)) table) ≡ true
none_left {m} {w} {end} {table} h {i} l k = all_none_left within table (i * (2 * m + 2)) (omega (arith, e)) (omega (arith, e))
  where
    e : length table ≡ i * (2 * m + 2)
    e = h.table_is ∙ ap (λ (n : ℕ). n * (2 * m + 2)) (omega arith)

-- ---- the loop

-- the invariant: of the segments behind it all numbers are within ±2^40, and `good` says whether their equations hold, the start state's with them
pub record Passed (m : ℕ) (w start end table : List ℤ) (good : Bool) (i : ℕ) : Type 0 where
  pub met : good ≡ meets_up_to m w start end table i
  pub left : all within table ≡ all within (drop (i * (2 * m + 2)) table)

-- no segment yet, and one more
pub no_segment : (m : ℕ) (w start end table : List ℤ) {good : Bool} → good ≡ meets_start m (length w - 1) table start → Passed m w start end table good 0
unfolding meets_up_to every
no_segment m w start end table e =
    record { met = e ∙ sym (and_true (meets_start m (length w - 1) table start)); left = rw zero-mul refl }

one_more : (m : ℕ) (w start end table : List ℤ) (i : ℕ) {good good' : Bool} → Passed m w start end table good i
    → all within (segment_part m table i) ≡ true → good' ≡ (good && segment_meets m w end table i)
    → Passed m w start end table good' (i + 1)
unfolding meets_up_to
one_more m w start end table i p fit e =
    let starts = meets_start m (length w - 1) table start in
    let f = segment_meets m w end table in
    record {
      met = e ∙ ap (λ (b : Bool). b && f i) p.met ∙ and_assoc starts (every i f) (f i) ∙ ap (λ (b : Bool). starts && b) (sym (every_more f i _ refl));
      left = p.left ∙ left_next m table i fit;
    }

-- a number out of range refuses
out_of_range : (m : ℕ) (w start end table : List ℤ) (i : ℕ) {good : Bool} → Passed m w start end table good i
    → all within (segment_part m table i) ≡ false → master_says (Err InvalidArgument) ≡ pass_says m w start end table
unfolding pass_says master_says
out_of_range m w start end table i p out =
    let e : all within table ≡ false = p.left ∙ left_next m table i out in
    rw e refl

-- a segment's refusal is handed on
pub pass_refused : (m : ℕ) (w start end table : List ℤ) (i : ℕ) (good : Bool) (e : PathError) (r : Result Bool PathError)
    → Passed m w start end table good i → IsErrAnd r (λ y. y ≡ e) → master_says (Err e) ≡ segment_says good m w end table i
    → master_says r ≡ pass_says m w start end table
unfolding master_says
pass_refused m w start end table i good e r p is h =
    let out : all within (segment_part m table i) ≡ false = was_out good m w end table i h refl in
    let q = err_from_is_err_and r is in
    rw (q.1, q.2) (h ∙ segment_out good m w end table i out ∙ out_of_range m w start end table i p out)

-- a segment's answer is gone on with
pub pass_goes_on : (m : ℕ) (w start end table : List ℤ) (i : ℕ) {good good' : Bool} → Passed m w start end table good i
    → master_says (Ok good') ≡ segment_says good m w end table i → Passed m w start end table good' (i + 1)
unfolding master_says
pass_goes_on m w start end table i {good} p h =
    one_more m w start end table i p (was_within good m w end table i h refl) (was_good good m w end table i h refl)

-- behind the loop every number is in range, and `good` is the answer
pub all_passed : (m : ℕ) (w start end table : List ℤ) (i : ℕ) {good : Bool} → Shaped m w end table → Passed m w start end table good i → i ≡ length w - 1
    → master_says (Ok good) ≡ pass_says m w start end table
unfolding pass_says master_says
all_passed m w start end table i {good} s p e =
    let all : Passed m w start end table good (length w - 1) = rw e at p in
    rw (all.left ∙ none_left s (omega arith) (omega arith), ← all.met) refl

-- what the pass starts and ends by
pub ruleset by_segments = (no_segment, all_passed)

-- ---- the answer

-- a no of those questions is the check's refusal
pub refused : (s : MasterSet) (e : PathError) (r : Result Bool PathError) → IsErrAnd r (λ y. y ≡ e) → number_of e ≡ first_no (questions_before s)
    → master_says r ≡ check_master s
unfolding master_says check_master
refused s e r is h = let p = err_from_is_err_and r is in rw (p.1, p.2, number_is s, ← h, number-not_zero e, number-not_zero e) refl

-- and else the pass's answer is the check's
pub passed : (s : MasterSet) → first_no (questions_before s) ≡ 0 → pass_says (m_of s.order) s.waypoints s.start s.end s.table ≡ check_master s
unfolding pass_says check_master
passed s e = rw (number_is s, e, met_is s (shaped s e).0.least) (answer (all within s.table) (endpoint_equations s) (joint_equations s))
  where
    answer : (t a b : Bool) → ◌≡◌ {A = MasterSays} (record { refused = not t; number = cond t 0 4; good = t && (a && b) })
        (record { refused = not (eqb (cond t 0 4) 0); number = cond t 0 4; good = eqb (cond t 0 4) 0 && a && b })
    answer true a b = refl
    answer false a b = refl

-- ---- an order's m

-- what the pass of an order is lent, and its answer
module _ (order m : ℕ) (w start end table : List ℤ) (asked : 0 ≡ first_no (questions_before (set_of order w start end table))) where
  pub lent : m_of order ≡ m → Shaped m w end table × (length start ≡ m)
  lent h = subst (λ (m : ℕ). Shaped m w end table × (length start ≡ m)) h (shaped (set_of order w start end table) (sym asked))

  pub answered : {r : MasterSays} → r ≡ pass_says m w start end table → m_of order ≡ m → r ≡ check_master (set_of order w start end table)
  answered is h =
      is ∙ subst (λ (m : ℕ). pass_says m w start end table ≡ check_master (set_of order w start end table)) h (passed (set_of order w start end table) (sym asked))

-- neither 3 nor 5
pub seven : (order : ℕ) (w start end table : List ℤ) → 0 ≡ first_no (questions_before (set_of order w start end table)) → (order ≡ 3 → ⊥) → (order ≡ 5 → ⊥)
    → m_of order ≡ 3
unfolding questions_before size_questions length_questions
seven order w start end table e n k =
    by_order (λ (order : ℕ). (order ≡ 3 → ⊥) → (order ≡ 5 → ⊥) → m_of order ≡ 3) (λ n k. absurd (n refl)) (λ n k. absurd (k refl)) (λ n k. refl) order
    (said_yes (questions_before (set_of order w start end table)) tt (sym e) 0) n k

-- what the check's answer goes by
pub ruleset by_orders = (answered, seven)
