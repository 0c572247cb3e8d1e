-- A sum of products, one product more at a time. Assumes nothing.
use mathlib.Core.Path.{◌≡◌, refl}
use Prim.Native.Nat.{ℕ, zero, suc, ◌+◌, ◌≤◌, ◌<◌}
use native.Mathlib.Nat.{not-suc-le-zero}
use native.Mathlib.Numerals.{add-one}
use native.Mathlib.Omega.{arith}
use lib.Ieee.{Float}
use Rattle.rules.specs.Floats.{◌⊕◌, sum_of}

pub sum_of_one : (f : ℕ → Float) → sum_of 1 f ≡ f 0
unfolding sum_of
sum_of_one f = refl

pub sum_of_more : (j : ℕ) (f : ℕ → Float) → 1 ≤ j → sum_of (j + 1) f ≡ sum_of j f ⊕ f j
unfolding sum_of
sum_of_more zero f h = absurd (not-suc-le-zero h)
sum_of_more (suc j) f h = rw add-one

pub sum_of_ext : (n : ℕ) (f g : ℕ → Float) → ((j : ℕ) → j < n → f j ≡ g j) → sum_of n f ≡ sum_of n g
unfolding sum_of
sum_of_ext zero f g h = refl
sum_of_ext (suc zero) f g h = h 0 (omega arith)
sum_of_ext (suc (suc n)) f g h = rw (sum_of_ext (suc n) f g (λ j l. h j (omega arith)), h (suc n) (omega arith))
