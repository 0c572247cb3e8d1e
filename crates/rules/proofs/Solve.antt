-- Whatever is solved has m numbers. Assumes nothing.
use mathlib.Core.Path.{◌≡◌}
use mathlib.Core.List.{List}
use Prim.Native.Nat.{ℕ, zero, suc}
use lib.ListN.{length}
use lib.Ieee.{Float}
use Rattle.rules.specs.Solve.{minus, Factored, forward, backward, solve}
use Rattle.law_lists.proofs.Lists.{length-listed}

pub length-minus : (m : ℕ) (v w : List Float) → length (minus m v w) ≡ m
unfolding minus
length-minus m v w = length-listed m _

length-forward : (m : ℕ) (f : Factored) (b : List Float) (k : ℕ) → length (forward m f b k) ≡ m
unfolding forward
length-forward m f b zero = length-listed m _
length-forward m f b (suc k) = length-listed m _

length-backward : (m : ℕ) (f : Factored) (b : List Float) (d : ℕ) → length (backward m f b d) ≡ m
unfolding backward
length-backward m f b zero = length-forward m f b m
length-backward m f b (suc d) = length-listed m _

pub length-solve : (m : ℕ) (f : Factored) (b : List Float) → length (solve m f b) ≡ m
unfolding solve
length-solve m f b = length-backward m f b m
