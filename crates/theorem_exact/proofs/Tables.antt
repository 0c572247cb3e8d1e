-- What the exactness of two-point builds asks of the tables of document 01, found by computing: H makes a segment end as it should, and its numbers are small.
-- A segment's 2m + 2 coefficients are linear forms of 2m + 2 numbers: the left waypoint, dy, the left node's m numbers and the right node's. Assumes nothing.
use mathlib.Core.Bool.{Bool, cond}
use Prim.Native.Nat.{ℕ, zero, suc, ◌+◌, ◌-◌, ◌*◌}
use lib.Dec.{T, leb, ltb}
use lib.IntN.{ℤ, pos, nat_abs, ◌+ℤ◌, ◌*ℤ◌}
use Rattle.law_lists.specs.Lists.{all, every}
use Rattle.rules.specs.Tables.{m_of, m1, m2, m3, for_order}
use Rattle.rules.specs.Build.{valid_order}
use Rattle.rules.specs.Master.{at, binomial, sumℤ, same}
use Rattle.rules.proofs.Build.{by_order}
use Rattle.theorem_exact.proofs.Sums.{unit}

-- row i of H, as a form that leaves the left waypoint out
unfoldable pub upper_form : ℕ → ℕ → ℕ → ℤ
upper_form m i zero = pos 0
upper_form m i (suc l) = at (for_order m).h (i * (1 + 2 * m) + l)

-- coefficient k: "left waypoint, left node's m numbers, the m + 1 upper ones"
unfoldable pub coefficient_form : ℕ → ℕ → ℕ → ℤ
coefficient_form m zero = unit 0
coefficient_form m (suc k) = cond (ltb k m) (unit (suc (suc k))) (upper_form m (k - m))

-- what the sum of C(k,r) × coefficient k is to be: the left waypoint plus dy, or number r of the right node, counted from 1
unfoldable pub end_form : ℕ → ℕ → ℕ → ℤ
end_form m zero l = unit 0 l +ℤ unit 1 l
end_form m (suc r) l = unit (suc (suc (m + r))) l

-- H makes every segment end so
unfoldable pub ends_right : ℕ → Bool
ends_right m =
    every (1 + m) (λ r. every (2 * m + 2) (λ l. same (sumℤ (2 * m + 2) (λ k. pos (binomial k r) *ℤ coefficient_form m k l)) (end_form m r l)))

-- no number of H is beyond 2^7
unfoldable pub small_entries : ℕ → Bool
small_entries m = all (λ z. leb (nat_abs z) 128) (for_order m).h

pub record TableFacts (m : ℕ) : Type 0 where
  pub few : T (leb m 3)
  pub small : T (small_entries m)
  pub ends : T (ends_right m)

pub table_facts : (order : ℕ) → T (valid_order order) → TableFacts (m_of order)
unfolding m1 m2 m3 for_order all every binomial sumℤ same unit upper_form coefficient_form end_form ends_right small_entries
table_facts order valid =
    record {
      few = by_order (λ (order : ℕ). T (leb (m_of order) 3)) tt tt tt order valid;
      small = by_order (λ (order : ℕ). T (small_entries (m_of order))) tt tt tt order valid;
      ends = by_order (λ (order : ℕ). T (ends_right (m_of order))) tt tt tt order valid;
    }
