-- Question 10 says yes to whatever passes the others, so asking it changes nothing. Assumes nothing.
use mathlib.Core.Path.{◌≡◌, refl, sym, ◌∙◌}
use mathlib.Core.Bool.{Bool, true, false}
use mathlib.Core.List.{[], ◌∷◌, ◌++◌}
use Prim.Native.Nat.{ℕ, ◌-◌, ◌≤◌}
use native.Mathlib.Omega.{arith}
use lib.Dec.{eqb}
use lib.Ieee.Bits.{is_true}
use borrow.Author.Tests.{eqb-true, eqb-false}
use Rattle.rules.specs.Questions.{ask, first_no}
use Rattle.rules.specs.Tables.{m_of}
use Rattle.rules.specs.Build.{build_questions, build_number}
use Rattle.law_lists.proofs.Lists.{every_of}
use Rattle.rules.proofs.Questions.{said_yes, first_no_lem, first_yes, yes_to}
use Rattle.rules.proofs.Build.{by_order}
use Rattle.theorem_pivots.specs.Pivots.{PivotsAreNeverZero, every_pivot, AskingChangesNothing}
use Rattle.theorem_pivots.proofs.Pivots.{pivots_are_never_zero}

pub every_pivot_lem : (m n : ℕ) → 1 ≤ m → m ≤ 3 → every_pivot m n ≡ true
unfolding every_pivot PivotsAreNeverZero
every_pivot_lem m n h l =
    is_true _ (every_of n _ (λ i b. every_of m _ (λ k d. rw (pivots_are_never_zero m i k h l d).0 tt)))

pub asking_changes_nothing : AskingChangesNothing
unfolding AskingChangesNothing build_number build_questions first_no
asking_changes_nothing b cells number = go (eqb (build_number b cells) 0) refl
  where
    m : ℕ
    m = m_of b.config.order

    go : (t : Bool) → eqb (build_number b cells) 0 ≡ t
        → first_no (build_questions b cells ++ (ask (every_pivot m (b.points - 2)) number ∷ [])) ≡ build_number b cells
    go false e = first_no_lem (build_questions b cells) (ask (every_pivot m (b.points - 2)) number ∷ []) (eqb-false (build_number b cells) 0 e)
    go true e =
        let all : build_number b cells ≡ 0 = eqb-true (build_number b cells) 0 e in
        let order : (1 ≤ m) × (m ≤ 3) =
        by_order (λ order. (1 ≤ m_of order) × (m_of order ≤ 3)) (omega arith, omega arith) (omega arith, omega arith) (omega arith, omega arith)
        b.config.order (said_yes (build_questions b cells) tt all 0) in
        first_yes (build_questions b cells) (ask (every_pivot m (b.points - 2)) number ∷ []) tt all
        ∙ yes_to number [] (every_pivot_lem m (b.points - 2) order.0 order.1)
        ∙ sym all
