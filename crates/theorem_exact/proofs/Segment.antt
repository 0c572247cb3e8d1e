-- A segment of whole numbers whose coefficients are the forms of Tables.antt starts and ends as it should. Assumes nothing.
use mathlib.Core.Path.{◌≡◌, sym, ap, ap₂, ◌∙◌}
use mathlib.Core.Bool.{Bool, cond}
use mathlib.Core.List.{List, ◌∷◌, ◌++◌}
use Prim.Native.Nat.{ℕ, suc, ◌+◌, ◌-◌, ◌*◌, ◌<◌}
use native.Mathlib.Omega.{arith}
use borrow.Author.Tests.{lt-ltb}
use lib.IntN.{ℤ, pos, ◌+ℤ◌, ◌*ℤ◌}
use lib.ListN.{length, get_or-append}
use lib.Seq.{get_or-append-add}
use Rattle.rules.specs.Master.{at, coefficient, binomial, at_end}
use Rattle.law_lists.proofs.Lists.{every_at}
use Rattle.rules.proofs.Master.{same→eq}
use Rattle.theorem_exact.proofs.Sums.{form, unit, sum_same, form_same, form_add, form_sum, form_unit}
use Rattle.theorem_exact.proofs.Tables.{upper_form, coefficient_form, end_form, ends_right, TableFacts}

-- the numbers that the forms are of
abbrev pub numbers : ℤ → ℤ → List ℤ → List ℤ → ℕ → ℤ
numbers y d left right = at (y ∷ d ∷ (left ++ right))

-- a table's first segment starts at y with the numbers left, and ends at z with the numbers right
pub record Meets (m : ℕ) (table : List ℤ) (y z : ℤ) (left right : List ℤ) : Type 0 where
  pub starts : coefficient m table 0 0 ≡ y
  pub starts_with : (r : ℕ) → r < m → coefficient m table 0 (suc r) ≡ at left r
  pub ends : at_end m table 0 0 ≡ z
  pub ends_with : (r : ℕ) → r < m → at_end m table 0 (suc r) ≡ at right r

module _ (m : ℕ) (y d : ℤ) (left right : List ℤ) (full : length left ≡ m) where
  pub number_left : (j : ℕ) → j < m → numbers y d left right (suc (suc j)) ≡ at left j
  number_left j l = get_or-append left right (pos 0) j (rw full l)

  pub number_right : (j : ℕ) → numbers y d left right (suc (suc (m + j))) ≡ at right j
  number_right j = ap (λ (k : ℕ). at (left ++ right) (k + j)) (sym full) ∙ get_or-append-add left right j (pos 0)

  abbrev x : ℕ → ℤ
  x = numbers y d left right

  abbrev size : ℕ
  size = 2 * m + 2

  module _ (table : List ℤ) (facts : TableFacts m) (is : (k : ℕ) → k < size → coefficient m table 0 k ≡ form size (coefficient_form m k) x) where
    end_form_lem : (r : ℕ) → r < 1 + m → at_end m table 0 r ≡ form size (end_form m r) x
    unfolding at_end ends_right
    end_form_lem r l =
        sum_same size _ _ (λ k h. ap (λ (z : ℤ). pos (binomial k r) *ℤ z) (is k h))
        ∙ form_sum size x size (λ k. pos (binomial k r)) (coefficient_form m)
        ∙ form_same size x _ _ (λ c h. same→eq _ _ (every_at size _ (every_at (1 + m) _ facts.ends r l) c h))

    pub meets : Meets m table y (y +ℤ d) left right
    unfolding coefficient_form end_form
    meets = record {
      starts = is 0 (omega arith) ∙ form_unit size x 0 (omega arith);
      starts_with = λ r l.
          is (suc r) (omega arith)
          ∙ ap (λ (t : Bool). form size (cond t (unit (suc (suc r))) (upper_form m (r - m))) x) (lt-ltb r m l)
          ∙ form_unit size x (suc (suc r)) (omega arith)
          ∙ number_left r l;
      ends = end_form_lem 0 (omega arith) ∙ form_add size x (unit 0) (unit 1) ∙ ap₂ ◌+ℤ◌ (form_unit size x 0 (omega arith)) (form_unit size x 1 (omega arith));
      ends_with = λ r l. end_form_lem (suc r) (omega arith) ∙ form_unit size x (suc (suc (m + r))) (omega arith) ∙ number_right r;
    }
