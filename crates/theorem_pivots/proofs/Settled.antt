-- The node that has a node's matrix is among the first that have all of them: `settled_below`; how many those are. Assumes nothing.
use mathlib.Core.Path.{◌≡◌, refl}
use mathlib.Core.Bool.{Bool, true, false, cond}
use Prim.Native.Nat.{ℕ, ◌+◌, ◌-◌, ◌%◌, ◌<◌, ◌≤◌, min}
use native.Mathlib.Nat.{mod-lt, mod-le}
use native.Mathlib.Omega.{arith}
use lib.Dec.{ltb, eqb}
use borrow.Author.Tests.{ltb-true, ltb-false}
use Rattle.theorem_pivots.specs.Repeating.{lead, period, settled, distinct}

-- what holds at the three m holds at each
by_m : (P : ℕ → ℕ → Type 0) → P 14 1 → P 23 1 → P 34 57 → (m : ℕ) → P (lead m) (period m)
unfolding lead period
by_m P x y z m = go (eqb m 1) (eqb m 2)
  where
    go : (a b : Bool) → P (cond a 14 (cond b 23 34)) (cond a 1 (cond b 1 57))
    go true b = x
    go false true = y
    go false false = z

some_period : (m : ℕ) → 0 < period m
some_period = by_m (λ lead period. 0 < period) (omega arith) (omega arith) (omega arith)

pub settled_below : (m n i : ℕ) → i < n → settled m i < distinct m n
unfolding settled distinct
settled_below m n i h = go (ltb i (lead m)) refl
  where
    go : (b : Bool) → ltb i (lead m) ≡ b → cond b i (lead m + (i - lead m) % period m) < min n (lead m + period m)
    go true e = omega (arith, ltb-true i (lead m) e)
    go false e =
        omega (arith, ltb-false i (lead m) e, mod-lt (i - lead m) (some_period m), mod-le (i - lead m) (period m))

-- more nodes have as many, or more
pub distinct_more : (m k n : ℕ) → k ≤ n → distinct m k ≤ distinct m n
unfolding distinct
distinct_more m k n h = omega arith

pub distinct_few : (m n : ℕ) → distinct m n ≤ n
unfolding distinct
distinct_few m n = omega arith

pub distinct_most : (m n : ℕ) → distinct m n ≤ 91
unfolding distinct
distinct_most m n = by_m (λ lead period. min n (lead + period) ≤ 91) (omega arith) (omega arith) (omega arith) m
