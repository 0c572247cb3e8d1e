-- Facts of sheets within the limits that the code leans on. Assumes nothing.
use mathlib.Core.Bool.{Bool}
use Prim.Native.Nat.{ℕ, zero, suc, ◌≤◌}
use native.Mathlib.Omega.{arith}
use lib.ListN.{length}
use Rattle.rules.specs.Sheets.{Axes, only, next, Heading, sheet, ValidAxes, ValidSheet, within, below4, Limited}
use Rattle.rules.specs.SheetAnswers.{axes_of}

-- J1, J20: "1 to 8 lines `(axis ..)`"
pub axes_counted : (fits opens : ℕ → Bool) (axes : Axes) (most : ℕ) → ValidAxes fits opens axes most
    → (1 ≤ length (axes_of axes)) × (length (axes_of axes) ≤ most)
unfolding ValidAxes axes_of
axes_counted fits opens (only a) zero v = absurd v
axes_counted fits opens (only a) (suc most) v = omega arith
axes_counted fits opens (next a axes) zero v = absurd v
axes_counted fits opens (next a axes) (suc most) v = omega (arith, (axes_counted fits opens axes most v.1).1)

pub no_ninth_axis : (h : Heading) (axes : Axes) → Limited (sheet h axes) → (1 ≤ length (axes_of axes)) × (length (axes_of axes) ≤ 8)
unfolding ValidSheet
no_ninth_axis h axes v = axes_counted within below4 axes 8 v.1
