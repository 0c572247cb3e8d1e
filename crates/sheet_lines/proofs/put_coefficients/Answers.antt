-- `sheet_lines::put_coefficients` meets its contract. Assumes nothing.
use mathlib.Core.Path.{ap}
use mathlib.Core.List.{List}
use Prim.Native.Nat.{ℕ}
use native.Mathlib.Omega.{arith}
use lib.ListN.{length}
use Rattle.law_lists.specs.Lists.{joined}
use lib.Ieee.{Float}
use Rattle.rules.specs.Floats.{◌!◌}
use Rattle.rules.proofs.Cells.{read}
use Rattle.sheet_bits.specs.Coefficients.{coefficient}
use Rattle.sheet_bits.proofs.Writing.{wrote_none, wrote_part, part_room}
use Rattle.sheet_lines.proofs.put_coefficients.Goals as goal

-- a coefficient's bytes
abbrev part : List Float → ℕ → List ℕ
part coeffs k = coefficient (coeffs ! k)

pub loop-x-init : goal.loop-x-init
unfolding joined
loop-x-init c = wrote_none _ (omega arith)

pub put_coefficient-requires : goal.put_coefficient-requires
put_coefficient-requires c =
    let cs = c.args.coeffs.now in
    let x = c.loop-x.x-index in
    omega (
      arith,
      part_room (part cs) x c.loop-x.invariant (length cs) c.loop-x-test.true c.requires,
      ap (λ (v : Float). length (coefficient v)) (read cs x c.loop-x-test.true),
    )

pub loop-x-preserved : goal.loop-x-preserved
loop-x-preserved c =
    let x = c.loop-x.x-index in
    wrote_part (part c.args.coeffs.now) x c.loop-x.invariant (ap coefficient (read c.args.coeffs.now x c.loop-x-test.true)) c.put_coefficient.ensures
