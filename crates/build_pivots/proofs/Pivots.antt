-- The pivot's row found going down a column. Assumes nothing.
use mathlib.Core.Path.{◌≡◌, ◌∙◌, ap}
use mathlib.Core.Bool.{Bool, false, cond}
use mathlib.Core.List.{List}
use Prim.Native.Nat.{ℕ, suc, ◌+◌, ◌-◌, ◌*◌, ◌<◌}
use native.Mathlib.Omega.{arith}
use lib.ListN.{length, get_or}
use lib.Ieee.{Float, nan, lt}
use Rattle.std.specs.Float.{float_with_sign}
use Rattle.rules.specs.Floats.{magnitude}
use Rattle.rules.specs.Solve.{entry, pivot_row}
use Rattle.rules.proofs.Cells.{entry_read}
use Rattle.build_pivots.proofs.Magnitudes.{without_sign}

-- one row more: x and y are the magnitudes that are compared, and t is the answer
pub pivot_step : (m : ℕ) (a : List Float) (k best next : ℕ) (x y : Float) (t : Bool) → k < next → best < next → next < m → length a ≡ m * m
    → best ≡ pivot_row m a k (next - suc k)
    → x ≡ float_with_sign false (get_or a (best * m + k) nan) → y ≡ float_with_sign false (get_or a (next * m + k) nan) → lt x y ≡ t
    → cond t next best ≡ pivot_row m a k (next + 1 - suc k)
unfolding pivot_row
pivot_step m a k best next x y t h b l n s p q e =
    let d : next + 1 - suc k ≡ suc (next - suc k) = omega arith in
    let o : k + suc (next - suc k) ≡ next = omega arith in
    let u : x ≡ magnitude (entry m a best k) = p ∙ without_sign _ ∙ ap (λ (z : Float). magnitude z) (entry_read m a best k n (omega arith) (omega arith)) in
    let v : y ≡ magnitude (entry m a next k) = q ∙ without_sign _ ∙ ap (λ (z : Float). magnitude z) (entry_read m a next k n (omega arith) (omega arith)) in
    rw (d, o, ← s, ← u, ← v, e)
