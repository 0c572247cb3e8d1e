-- The table of a master is unique. Equal tables have equal waypoints and states because the equations say what those are; equal waypoints and states have equal
-- tables by Difference.antt. Assumes nothing.
use mathlib.Core.Path.{◌≡◌, sym, ap, ap₂, ◌∙◌, subst}
use mathlib.Core.Logic.{◌↔◌}
use mathlib.Core.List.{List}
use Prim.Native.Nat.{ℕ, zero, suc, ◌+◌, ◌-◌, ◌*◌, ◌<◌}
use native.Mathlib.Nat.{eq_of_mul-eq-mul_right}
use native.Mathlib.Omega.{arith}
use lib.Dec.{T}
use lib.IntN.{ℤ, pos}
use lib.ListN.{length}
use lib.Seq.{ext_get_or}
use Rattle.std.specs.Prelude.{Bool, true, Result, Ok}
use Rattle.rules.specs.declared.PathError.{PathError}
use Rattle.rules.specs.Tables.{m_of}
use Rattle.rules.specs.Master.{MasterSet, MasterSays, set_of, at, coefficient, at_end, check_master, master_says}
use Rattle.theorem_exact.specs.Exact.{axis_set}
use Rattle.theorem_evaluation.proofs.Masters.{two_points_checked}
use Rattle.master_unique.specs.Unique.{MastersAreUnique, TwoCallsThatSaidYes, TwoPointMastersAreBuilt}
use Rattle.master_unique.proofs.Good.{Good, good}
use Rattle.master_unique.proofs.Difference.{tables_equal}

module _ (order : ℕ) (w w' start start' end end' table table' : List ℤ)
    (g : Good (set_of order w start end table)) (g' : Good (set_of order w' start' end' table')) where
  abbrev m : ℕ
  m = m_of order

  abbrev DataEqual : Type 0
  DataEqual = (w ≡ w') × (start ≡ start') × (end ≡ end')

  module _ (e : table ≡ table') where
    -- a table's length says how many points there are
    segments_equal : length w - 1 ≡ length w' - 1
    segments_equal = eq_of_mul-eq-mul_right (2 * m + 2) (omega arith) _ _ (sym g.cells ∙ ap length e ∙ g'.cells)

    points_equal : length w ≡ length w'
    points_equal = let h = segments_equal in let k = g.points in let l = g'.points in omega arith

    -- the first waypoint starts a segment, and each other one ends one
    waypoint_equal : (i : ℕ) → i < length w → at w i ≡ at w' i
    waypoint_equal zero l =
        let h = points_equal in let k = g.points in
        sym (g.equations.left 0 (omega arith)) ∙ ap (λ (t : List ℤ). coefficient m t 0 0) e ∙ g'.equations.left 0 (omega arith)
    waypoint_equal (suc i) l =
        let h = points_equal in
        sym (g.equations.right i (omega arith)) ∙ ap (λ (t : List ℤ). at_end m t i 0) e ∙ g'.equations.right i (omega arith)

    start_equal : (r : ℕ) → r < length start → at start r ≡ at start' r
    start_equal r l =
        let h : r < m = rw g.starts at l in
        sym (g.equations.start r h) ∙ ap (λ (t : List ℤ). coefficient m t 0 (suc r)) e ∙ g'.equations.start r h

    end_equal : (r : ℕ) → r < length end → at end r ≡ at end' r
    end_equal r l =
        let h : r < m = rw g.ends at l in
        sym (g.equations.end r h) ∙ ap₂ (λ (t : List ℤ) (n : ℕ). at_end m t (n - 1) (suc r)) e segments_equal ∙ g'.equations.end r h

    data_equal : DataEqual
    data_equal = (
      ext_get_or (pos 0) w w' points_equal waypoint_equal,
      ext_get_or (pos 0) start start' (g.starts ∙ sym g'.starts) start_equal,
      ext_get_or (pos 0) end end' (g.ends ∙ sym g'.ends) end_equal,
    )

  unique : (table ≡ table') ↔ DataEqual
  unique = (data_equal, λ q. tables_equal order w start end table table' g (rw (q.0, q.1, q.2) g'))

pub masters_are_unique : MastersAreUnique
unfolding MastersAreUnique
masters_are_unique s t e y y' =
    unique s.order s.waypoints t.waypoints s.start t.start s.end t.end s.table t.table (good s y)
    (good (set_of s.order t.waypoints t.start t.end t.table) (rw e y'))

-- ---- of two calls

answered_yes : (s : MasterSet) (answer : Result Bool PathError) → master_says answer ≡ check_master s → answer ≡ Ok true → T (check_master s).good
unfolding master_says
answered_yes s answer e y = subst (λ (says : MasterSays). T says.good) (sym (ap master_says y) ∙ e) tt

pub two_calls_that_said_yes : TwoCallsThatSaidYes
unfolding TwoCallsThatSaidYes
two_calls_that_said_yes order w w' start start' end end' table table' answer answer' e e' y y' =
    unique order w w' start start' end end' table table' (good _ (answered_yes _ answer e y)) (good _ (answered_yes _ answer' e' y'))

-- ---- of a build

pub two_point_masters_are_built : TwoPointMastersAreBuilt
unfolding TwoPointMastersAreBuilt MastersAreUnique axis_set
two_point_masters_are_built b cells axis accepted w inside small t e y =
    masters_are_unique (axis_set b axis) t e (two_points_checked b cells axis accepted w inside small) y
