-- What is counted by numbers is what is counted by an `Option`. Assumes nothing.
use mathlib.Core.Path.{◌≡◌, refl}
use mathlib.Core.Bool.{Bool, true, false, cond}
use Prim.Native.Nat.{ℕ}
use lib.Dec.{leb, eqb}
use Rattle.std.proofs.Common.{None, Some}
use Rattle.std.specs.Option.{option_or}
use Rattle.rules.specs.declared.PathError.TheVariants.{InvalidLength, InvalidShape}
use Rattle.sheet_sizes.specs.declared.AxisSizes.{AxisSizes}
use Rattle.sheet_sizes.specs.declared.AxesSizes.{AxesSizes}
use Rattle.sheet_sizes.specs.declared.SizesSofar.{SizesSofar}
use Rattle.sheet_sizes.specs.Sizes.{first_fault, axes_with, place_of, fault_of, counted, told, earliest, with_axis}

-- the first of 2 and 3, by what is asked of an axis
told_first : (x y u v : Bool) (a b d e : ℕ)
    → told (option_or (option_or (option_or (cond x (Some (record { cause = InvalidLength; at = a })) None)
    (cond y None (Some (record { cause = InvalidShape; at = e }))))
    (cond u (Some (record { cause = InvalidLength; at = b })) None)) (cond v (Some (record { cause = InvalidLength; at = d })) None))
    ≡ cond x (place_of 2 a) (cond y (cond u (place_of 2 b) (cond v (place_of 2 d) (place_of 0 0))) (place_of 3 e))
told_first true y u v a b d e = refl
told_first false false u v a b d e = refl
told_first false true true v a b d e = refl
told_first false true false true a b d e = refl
told_first false true false false a b d e = refl

told_is : (z : AxisSizes) (count : ℕ) → told (first_fault z count) ≡ fault_of z count
unfolding fault_of
told_is z count = told_first (leb 258 z.points.numbers) (eqb z.points.numbers count) (leb 4 z.start.numbers) (leb 4 z.end.numbers) _ _ _ _

-- with one axis more
module _ (k : ℕ) (sofar : SizesSofar) (z : AxisSizes) where
  abbrev axes : AxesSizes
  axes = axes_with (counted k sofar) z

  abbrev by_numbers : SizesSofar
  by_numbers = record {
    points = axes.points;
    start = axes.start;
    end = axes.end;
    number = (earliest sofar axes.fault).number;
    at = (earliest sofar axes.fault).at;
  }

  pub with_is : by_numbers ≡ with_axis k sofar z
  unfolding with_axis
  with_is = go (eqb k 0) refl
    where
      go : (b : Bool) → eqb k 0 ≡ b → by_numbers ≡ with_axis k sofar z
      go true e = rw (e, told_is z z.points.numbers)
      go false e = rw (e, told_is z sofar.points)
