-- The definition of solving forward, one step more at a time. Assumes nothing.
use mathlib.Core.Path.{◌≡◌}
use mathlib.Core.List.{List}
use Prim.Native.Nat.{ℕ, ◌+◌}
use native.Mathlib.Numerals.{add-one}
use lib.Ieee.{Float}
use Rattle.rules.specs.Solve.{Factored, forward}
use Rattle.build_forward.specs.Steps.{forward_step}

pub forward_more : (m : ℕ) (f : Factored) (b : List Float) (k : ℕ) → forward m f b (k + 1) ≡ forward_step m f.entries (forward m f b k) k
unfolding forward forward_step
forward_more m f b k = rw add-one
