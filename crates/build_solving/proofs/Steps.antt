-- The definition of solving back, one row more at a time, from the last. Assumes nothing.
use mathlib.Core.Path.{◌≡◌}
use mathlib.Core.List.{List}
use Prim.Native.Nat.{ℕ, suc, ◌-◌, ◌<◌, ◌≤◌}
use native.Mathlib.Omega.{arith}
use lib.Ieee.{Float}
use Rattle.rules.specs.Solve.{Factored, backward}
use Rattle.build_solving.specs.Steps.{backward_step}

pub backward_more : (m : ℕ) (f : Factored) (b : List Float) (k : ℕ) → 0 < k → k ≤ m
    → backward m f b (m - (k - 1)) ≡ backward_step m f.entries (backward m f b (m - k)) (k - 1)
unfolding backward backward_step
backward_more m f b k h l =
    let more : m - (k - 1) ≡ suc (m - k) = omega arith in
    let row : m - suc (m - k) ≡ k - 1 = omega arith in
    rw (more, row)
