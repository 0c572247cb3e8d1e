-- std's tests and the definitions are one: of a float, and of each number of a list. Assumes nothing.
use Rattle.std.specs.Prelude.{◌≡◌, List, [], ◌∷◌, ◌&&◌, Float}
use Rattle.std.specs.List.{list_all}
use Rattle.std.specs.Float.{nan, inf, fin, float_is_finite}
use Rattle.std.proofs.Common.{refl, ap₂}
use Rattle.law_lists.specs.Lists.{all}
use Rattle.rules.specs.Floats.{finite}

pub finite_is : (x : Float) → float_is_finite x ≡ finite x
unfolding float_is_finite
finite_is nan = refl
finite_is (inf s) = refl
finite_is (fin s m e) = refl

pub all_finite_is : (xs : List Float) → list_all float_is_finite xs ≡ all finite xs
unfolding all
all_finite_is [] = refl
all_finite_is (x ∷ xs) = ap₂ ◌&&◌ (finite_is x) (all_finite_is xs)
