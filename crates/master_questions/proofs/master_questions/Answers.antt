-- Each way out is a no to the next question, or a yes to all. Assumes nothing.
use Rattle.std.specs.Prelude.{◌≡◌, ℕ, ◌+◌, ◌*◌, ◌-◌, ◌≤◌, Bool, true, false, cond, ◌&&◌, ◌∷◌, [], eqb, length}
use Rattle.std.proofs.Common.{refl, sym, ◌∙◌, arith}
use native.Mathlib.Nat.{mul-le-mul}
use lib.Dec.{lit≤}
use Rattle.law_lists.specs.Lists.{all}
use Rattle.rules.specs.Questions.{ask, first_no}
use Rattle.rules.specs.Tables.{m_of}
use Rattle.rules.specs.Master.{MasterSet, within, size_questions, length_questions}
use Rattle.rules.proofs.Build.{by_order}
use Rattle.questions.proofs.Asked.{handed_on, went_on}
use Rattle.questions.proofs.Sized.{sized}
use Rattle.master_questions.specs.Asked.{questions_before}
use Rattle.master_questions.specs.Lists.{set_with}
use Rattle.master_questions.proofs.master_questions.Goals as goal

-- four questions, the first two of which have one number
of_four : (a b t n : Bool) → first_no (ask a 303 ∷ ask b 303 ∷ ask t 2 ∷ ask n 4 ∷ []) ≡ cond (a && b) (first_no (ask t 2 ∷ ask n 4 ∷ [])) 303
unfolding first_no
of_four false b t n = refl
of_four true false t n = refl
of_four true true t n = refl

-- behind the questions of the size
behind : (s : MasterSet) → 0 ≡ first_no (size_questions s.order (length s.waypoints))
    → first_no (questions_before s)
    ≡ cond (eqb (length s.start) (m_of s.order) && eqb (length s.end) (m_of s.order))
    (first_no (
    ask (eqb (length s.table) ((length s.waypoints - 1) * (s.order + 1))) 2 ∷
    ask (all within s.waypoints && all within s.start && all within s.end) 4 ∷ []
    )) 303
unfolding questions_before size_questions length_questions
behind s e = went_on (size_questions s.order (length s.waypoints)) _ tt e ∙ of_four _ _ _ _

-- behind them the order and the number of points are small
small : {order points : ℕ} → 0 ≡ first_no (size_questions order points) → (3 ≤ order) × (order ≤ 7) × (2 ≤ points) × (points ≤ 257)
small {order} {points} e =
    let s = sized (sym e) in
    let o = by_order (λ (order : ℕ). (3 ≤ order) × (order ≤ 7)) (lit≤ tt, lit≤ tt) (lit≤ tt, lit≤ tt) (lit≤ tt, lit≤ tt) order s.valid in
    (o.0, o.1, s.least, s.most)

pub returns-in_err-size_questions : goal.returns-in_err-size_questions
unfolding questions_before size_questions length_questions
returns-in_err-size_questions c =
    handed_on _ c.from_residual.result (size_questions c.args.order (length c.args.lists.waypoints.now)) _ c.from_residual.ensures.1 c.in_err-size_questions.ensures

pub overflow_sub-m : goal.overflow_sub-m
overflow_sub-m c = let h = small c.in_ok-size_questions.ensures in omega arith

pub returns-then-not-states_fit : goal.returns-then-not-states_fit
returns-then-not-states_fit c = rw (behind (set_with c.args.order c.args.lists) c.in_ok-size_questions.ensures, ← c.if-not-states_fit.ensures) refl

pub overflow_sub-fits : goal.overflow_sub-fits
overflow_sub-fits c = let h = small c.in_ok-size_questions.ensures in omega arith

pub overflow_mul-fits : goal.overflow_mul-fits
overflow_mul-fits c =
    let h = small c.in_ok-size_questions.ensures in
    let p : (length c.args.lists.waypoints.now - 1) * (c.args.order + 1) ≤ 256 * 8 = mul-le-mul {n₂ = 256} {m₂ = 8} (omega arith) (omega arith) in
    record { fits = omega arith }

pub returns : goal.returns
returns c =
    rw (behind (set_with c.args.order c.args.lists) c.in_ok-size_questions.ensures, ← c.if-not-states_fit.ensures, ← c.given_within.ensures)
    c.table_and_range.ensures
