-- Where the matrices repeat, by m: as the code tells the three cases apart. Assumes nothing.
use mathlib.Core.Path.{◌≡◌, refl, ◌∙◌}
use mathlib.Core.Bool.{Bool, true, false, cond}
use Prim.Native.Nat.{ℕ, ◌+◌, ◌-◌, ◌%◌, ◌<◌, ◌≤◌, min}
use native.Mathlib.Nat.{mod-lt}
use native.Mathlib.Omega.{arith}
use lib.Dec.{ltb, eqb}
use borrow.Author.Tests.{ltb-true, ltb-false, lt-ltb, le-ltb, ne_eqb}
use Rattle.theorem_pivots.specs.Repeating.{lead, period, settled, distinct}

-- with a period of 1
at_last : (i lead : ℕ) → cond (ltb i lead) i (lead + (i - lead) % 1) ≡ min i lead
at_last i lead = go (ltb i lead) refl
  where
    go : (b : Bool) → ltb i lead ≡ b → cond b i (lead + (i - lead) % 1) ≡ min i lead
    go true e = omega (arith, ltb-true i lead e)
    go false e = omega (arith, ltb-false i lead e, mod-lt (i - lead) {m = 1} (omega arith))

late : (m : ℕ) → 14 ≤ lead m
unfolding lead
late m = go (eqb m 1) (eqb m 2)
  where
    go : (a b : Bool) → 14 ≤ cond a 14 (cond b 23 34)
    go true b = omega arith
    go false true = omega arith
    go false false = omega arith

pub settled_early : (m i : ℕ) → i < 14 → settled m i ≡ i
unfolding settled
settled_early m i h = let l : i < lead m = omega (arith, late m) in rw (lt-ltb i (lead m) l)

pub settled_1 : {m : ℕ} (i : ℕ) → m ≡ 1 → 14 ≤ i → settled m i ≡ 14
unfolding settled lead period
settled_1 i e h = let l : min i 14 ≡ 14 = omega arith in rw e (at_last i 14 ∙ l)

pub settled_2 : {m : ℕ} (i : ℕ) → m ≡ 2 → settled m i ≡ min i 23
unfolding settled lead period
settled_2 i e = rw e (at_last i 23)

pub distinct_1 : {m : ℕ} (n : ℕ) → m ≡ 1 → distinct m n ≡ min n 15
unfolding distinct lead period
distinct_1 n e = rw e

pub distinct_2 : {m : ℕ} (n : ℕ) → m ≡ 2 → distinct m n ≡ min n 24
unfolding distinct lead period
distinct_2 n e = rw e

module _ {m : ℕ} (i : ℕ) (h : m ≡ 1 → ⊥) (l : m ≡ 2 → ⊥) where
  pub settled_3 : settled m i ≡ cond (ltb i 34) i (34 + (i - 34) % 57)
  unfolding settled lead period
  settled_3 = rw (ne_eqb m 1 h, ne_eqb m 2 l)

  pub settled_first : i < 34 → settled m i ≡ i
  settled_first b = settled_3 ∙ rw (lt-ltb i 34 b)

  pub settled_round : 34 ≤ i → settled m i ≡ 34 + (i - 34) % 57
  settled_round b = settled_3 ∙ rw (le-ltb i 34 b)

  pub distinct_3 : distinct m i ≡ min i 91
  unfolding distinct lead period
  distinct_3 = rw (ne_eqb m 1 h, ne_eqb m 2 l)
