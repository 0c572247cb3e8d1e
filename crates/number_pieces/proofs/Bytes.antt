-- Going on with the bytes from a place on. Assumes nothing.
use mathlib.Core.Path.{◌≡◌, refl, ap, ◌∙◌}
use mathlib.Core.Logic.{⊎_elim}
use mathlib.Core.Bool.{Bool, true, false}
use mathlib.Core.List.{List, [], ◌∷◌}
use Prim.Native.Nat.{ℕ, ◌+◌, ◌<◌, ◌≤◌}
use lib.ListN.{length, get_or, take, drop, drop_of_length-le}
use Rattle.rules.specs.declared.NumberReading.{NumberReading}
use Rattle.rules.specs.SheetNumbers.{in_digits, is_open, taken, go_on}
use Rattle.sheet_laws.proofs.Texts.{drop_here}
use Rattle.theorem_numbers.specs.Pieces.{Settled}
use Rattle.theorem_numbers.proofs.Going.{stays, more}

module _ (r : NumberReading) (s : List ℕ) (i : ℕ) where
  pub none_left : length s ≤ i → go_on r (drop i s) ≡ r
  unfolding go_on
  none_left h = rw (drop_of_length-le s h)

  pub one_more : i < length s → is_open r ≡ true → go_on r (drop i s) ≡ go_on (taken r (get_or s i 0)) (drop (i + 1) s)
  one_more h e = ap (go_on r) (drop_here s i h) ∙ more r (get_or s i 0) (drop (i + 1) s) e

  -- one byte, if there is one
  pub one_none : length s ≤ i → go_on r (take 1 (drop i s)) ≡ r
  unfolding go_on
  one_none h = rw (drop_of_length-le s h)

  pub one_here : i < length s → go_on r (take 1 (drop i s)) ≡ go_on r (get_or s i 0 ∷ [])
  one_here h = ap (λ t. go_on r (take 1 t)) (drop_here s i h)

  pub one_byte : i < length s → is_open r ≡ true → go_on r (take 1 (drop i s)) ≡ taken r (get_or s i 0)
  unfolding go_on
  one_byte h e = one_here h ∙ more r (get_or s i 0) [] e

-- one byte
pub byte_taken : (r : NumberReading) (b : ℕ) → is_open r ≡ true → go_on r (b ∷ []) ≡ taken r b
unfolding go_on
byte_taken r b e = more r b [] e

-- a record that is settled, but not in its digits, stays as it is
pub settled_stays : (r : NumberReading) (t : List ℕ) → Settled r t → (r.stage ≡ in_digits → ⊥) → go_on r t ≡ r
unfolding Settled go_on
settled_stays r t h other = ⊎_elim (λ e. rw e) (λ f. go f (is_open r) refl) h
  where
    go : (is_open r ≡ true → r.stage ≡ in_digits) → (x : Bool) → is_open r ≡ x → go_on r t ≡ r
    go f true i = absurd (other (f i))
    go f false i = stays r t i
