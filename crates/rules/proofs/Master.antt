-- The master check says yes exactly where no question refuses the set and its equations hold: `yes_iff`. What an answer says decides it: `says_decides`.
-- Assumes nothing.
use mathlib.Core.Path.{◌≡◌, refl, sym, ap, ◌∙◌, subst}
use mathlib.Core.Logic.{◌↔◌}
use mathlib.Core.Bool.{Bool, cond, not, ◌&&◌}
use Prim.Native.Nat.{ℕ, ◌-◌, ◌<◌}
use lib.Dec.{T, eqb, eqb→eq, eqb_refl}
use lib.IntN.{ℤ, pos, negsuc}
use lib.Ieee.Fits.{and_i, and_l, and_r}
use Rattle.std.specs.Prelude.{Result, Ok, Err}
use Rattle.rules.specs.declared.PathError.{PathError}
use Rattle.law_lists.specs.Lists.{every}
use Rattle.rules.specs.Tables.{m_of}
use Rattle.rules.proofs.Questions.{error_of, error-number, number-not_zero}
use Rattle.rules.specs.Master.{MasterSet, Equations, MasterSays, master_number, master_says, same, segments}
use Rattle.rules.specs.Master.{meets_left, meets_right, meets_start, meets_end, meets_joints, endpoint_equations, joint_equations, check_master}
use Rattle.law_lists.proofs.Lists.{every_at, every_of}

pub same→eq : (a b : ℤ) → T (same a b) → a ≡ b
unfolding same
same→eq (pos a) (pos b) t = ap pos (eqb→eq a b t)
same→eq (pos a) (negsuc b) t = absurd t
same→eq (negsuc a) (pos b) t = absurd t
same→eq (negsuc a) (negsuc b) t = ap negsuc (eqb→eq a b t)

same_refl : (a : ℤ) → T (same a a)
unfolding same
same_refl (pos a) = eqb_refl a
same_refl (negsuc a) = eqb_refl a

pub eq→same : (a b : ℤ) → a ≡ b → T (same a b)
eq→same a b e = subst (λ (z : ℤ). T (same a z)) e (same_refl a)

-- numbers that are equal at each place below n, by a test and by equations
each : (n : ℕ) (f g : ℕ → ℤ) → T (every n (λ i. same (f i) (g i))) → (i : ℕ) → i < n → f i ≡ g i
each n f g t i h = same→eq (f i) (g i) (every_at n _ t i h)

every_same : (n : ℕ) (f g : ℕ → ℤ) → ((i : ℕ) → i < n → f i ≡ g i) → T (every n (λ i. same (f i) (g i)))
every_same n f g e = every_of n _ (λ i h. eq→same (f i) (g i) (e i h))

-- ---- the tests and the equations

module _ (s : MasterSet) where
  abbrev m : ℕ
  m = m_of s.order

  abbrev n : ℕ
  n = segments s

  abbrev left : Bool
  left = meets_left m n s.table s.waypoints

  abbrev right : Bool
  right = meets_right m n s.table s.waypoints

  abbrev start : Bool
  start = meets_start m n s.table s.start

  abbrev end : Bool
  end = meets_end m n s.table s.end

  abbrev accepted : Bool
  accepted = eqb (master_number s) 0

  pub to_equations : T (endpoint_equations s) → T (joint_equations s) → Equations s
  unfolding endpoint_equations joint_equations meets_left meets_right meets_start meets_end meets_joints
  to_equations e j =
      let three = and_l (left && right && start) end e in
      let two = and_l (left && right) start three in
      record {
        left = each n _ _ (and_l left right two);
        right = each n _ _ (and_r left right two);
        start = each m _ _ (and_r (left && right) start three);
        end = each m _ _ (and_r (left && right && start) end e);
        joint = λ i h. each _ _ _ (every_at (n - 1) _ j i h);
      }

  pub of_equations : Equations s → T (endpoint_equations s) × T (joint_equations s)
  unfolding endpoint_equations joint_equations meets_left meets_right meets_start meets_end meets_joints
  of_equations q = (
    and_i (left && right && start) end
        (and_i (left && right) start (and_i left right (every_same n _ _ q.left) (every_same n _ _ q.right)) (every_same m _ _ q.start))
        (every_same m _ _ q.end),
    every_of (n - 1) _ (λ i h. every_same _ _ _ (q.joint i h)),
  )

  -- D2c: the check's yes is its equations
  pub yes_iff : T (check_master s).good ↔ ((master_number s ≡ 0) × Equations s)
  unfolding check_master
  yes_iff = (
    λ y.
        let asked = and_l (accepted && endpoint_equations s) (joint_equations s) y in (
          eqb→eq (master_number s) 0 (and_l accepted (endpoint_equations s) asked),
          to_equations (and_r accepted (endpoint_equations s) asked) (and_r (accepted && endpoint_equations s) (joint_equations s) y),
        ),
    λ q.
        let held = of_equations q.1 in
        and_i (accepted && endpoint_equations s) (joint_equations s)
        (and_i accepted (endpoint_equations s) (subst (λ (k : ℕ). T (eqb k 0)) (sym q.0) (eqb_refl 0)) held.0) held.1,
  )

-- ---- the answer

answer_of : MasterSays → Result Bool PathError
answer_of says = cond says.refused (Err (error_of says.number)) (Ok says.good)

back : (a : Result Bool PathError) → answer_of (master_says a) ≡ a
unfolding answer_of master_says
back (Ok good) = refl
back (Err error) = ap Err (error-number error)

-- M8: a refusal has a number, and no other answer has one
pub refused_where_numbered : (a : Result Bool PathError) → (master_says a).refused ≡ not (eqb (master_says a).number 0)
unfolding master_says
refused_where_numbered (Ok good) = refl
refused_where_numbered (Err error) = sym (ap not (number-not_zero error))

-- F11: no two answers say the same
pub says_decides : (a b : Result Bool PathError) → master_says a ≡ master_says b → a ≡ b
says_decides a b e = sym (back a) ∙ ap answer_of e ∙ back b
