-- A state of an unknown kind fits nothing. Assumes nothing.
use native.Mathlib.Omega.{arith}
use borrow.Author.Tests.{ne_eqb}
use Prim.Native.Nat.{◌≤◌}
use lib.Dec.{leb, leb→le}
use lib.Ieee.Fits.{and_r}
use Rattle.rules.specs.Build.{valid_axes, valid_state}
use Rattle.theorem_records.specs.Exports.{UnknownKindsFitNothing}

pub unknown_kinds_fit_nothing : UnknownKindsFitNothing
unfolding UnknownKindsFitNothing valid_state valid_axes
unknown_kinds_fit_nothing s axes m numbers other few =
    let most : axes ≤ 8 = leb→le axes 8 (and_r (leb 1 axes) (leb axes 8) few) in
    rw (
      ne_eqb s.kind 0 (omega arith),
      ne_eqb s.kind 1 (omega arith),
      ne_eqb s.kind 2 (omega arith),
      ne_eqb 18446744073709551615 axes (omega arith),
    )
