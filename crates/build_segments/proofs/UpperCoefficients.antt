-- An upper coefficient as the code sums it up. Assumes nothing.
use mathlib.Core.Path.{◌≡◌, sym, ap}
use mathlib.Core.List.{List}
use Prim.Native.Nat.{ℕ, ◌+◌, ◌*◌}
use native.Mathlib.Nat.{add-zero}
use native.Mathlib.Omega.{arith}
use lib.Ieee.{Float}
use Rattle.rules.specs.Floats.{◌⊗◌, ◌⊕◌, ◌!◌, sum_of}
use Rattle.rules.specs.Tables.{H}
use Rattle.rules.specs.Build.{upper_coefficient}
use Rattle.build_products.proofs.Sums.{sum_of_ext}

-- the place of row i's entry k + j, counted by the code from at
place : (at k j : ℕ) → at + k + j * 1 ≡ at + (k + j)
place at k j = omega arith

row_sum : (m at k : ℕ) (h u : List Float) → sum_of m (λ j. h ! (at + k + j * 1) ⊗ u ! j) ≡ sum_of m (λ j. h ! (at + (k + j)) ⊗ u ! j)
row_sum m at k h u = sum_of_ext m _ _ (λ j l. ap (λ (p : ℕ). h ! p ⊗ u ! j) (place at k j))

pub upper_is : (m : ℕ) (d : Float) (h left right : List Float) (i : ℕ) → h ≡ H m
    → (let at = i * (1 + 2 * m) in
    (h ! at ⊗ d ⊕ sum_of m (λ j. h ! (at + 1 + j * 1) ⊗ left ! j)) ⊕ sum_of m (λ j. h ! (at + 1 + m + j * 1) ⊗ right ! j)) ≡ upper_coefficient m d left right i
unfolding upper_coefficient
upper_is m d h left right i e =
    let at : ℕ = i * (1 + 2 * m) in
    let regroup : at + 1 + m ≡ at + (1 + m) = omega arith in
    rw (row_sum m at 1 h left, regroup, row_sum m at (1 + m) h right, e)
    (ap (λ (p : ℕ). (H m ! p ⊗ d ⊕ sum_of m (λ j. H m ! (at + (1 + j)) ⊗ left ! j)) ⊕ sum_of m (λ j. H m ! (at + (1 + m + j)) ⊗ right ! j)) (sym (add-zero at)))
