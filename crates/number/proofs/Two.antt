-- Two bytes, and the others. Assumes nothing.
use mathlib.Core.Path.{◌≡◌, refl}
use mathlib.Core.List.{List, [], ◌∷◌}
use Prim.Native.Nat.{ℕ}
use Rattle.rules.specs.declared.NumberReading.{NumberReading}
use Rattle.rules.specs.SheetNumbers.{go_on}
use Rattle.theorem_numbers.specs.Pieces.{Settled, TwoBytesSettle}
use Rattle.theorem_numbers.proofs.Pieces.{two_bytes_settle}

pub after_two : (r : NumberReading) (a b : ℕ) (t : List ℕ) → Settled (go_on (go_on r (a ∷ [])) (b ∷ [])) t
unfolding TwoBytesSettle go_on
after_two r a b t = two_bytes_settle r a b t

pub two_and_others : (r : NumberReading) (a b : ℕ) (t : List ℕ) → go_on (go_on (go_on r (a ∷ [])) (b ∷ [])) t ≡ go_on r (a ∷ b ∷ t)
unfolding go_on
two_and_others r a b t = refl
