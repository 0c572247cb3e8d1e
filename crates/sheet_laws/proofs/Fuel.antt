-- How much fuel a list is read with does not matter, if it is more than the text's length: so a list is an item and what follows it. Assumes nothing.
use mathlib.Core.Path.{◌≡◌, refl, ap}
use mathlib.Core.Bool.{Bool, true, false}
use mathlib.Core.List.{List, [], ◌∷◌}
use Prim.Native.Nat.{ℕ, zero, suc, ◌<◌, ◌≤◌}
use native.Mathlib.Omega.{arith}
use lib.ListN.{length}
use lib.Dec.{eqb}
use Rattle.rules.specs.Sheets.{Item, Items, again, more}
use Rattle.rules.specs.SheetReading.{Read, got, stop, then, head, form, item, after, items}
use Rattle.sheet_laws.proofs.Short.{rest, head_short, item_short, items_short}

-- two readings go on alike where the first of each is the same and its rest is not longer than n
then_same : {A B : Type 0} (n : ℕ) (x y : Read A) (f g : A → List ℕ → Read B) → x ≡ y → length (rest x) ≤ n
    → ((a : A) (z : List ℕ) → length z ≤ n → f a z ≡ g a z) → then x f ≡ then y g
unfolding then
then_same n (got a z) y f g e l h = rw (← e) (h a z l)
then_same n (stop k z) y f g e l h = rw (← e)

module _ (fits : ℕ → Bool) (opens : ℕ → Bool) where
  module _ (f g : List ℕ → Read Items) where
    -- an item asks its inner list of shorter texts only
    item_same : (d : ℕ) (t : List ℕ) → ((r : List ℕ) → length r < length t → f r ≡ g r) → item fits opens f d t ≡ item fits opens g d t
    unfolding item form
    item_same d [] h = refl
    item_same d (b ∷ t) h = go (eqb b 40) refl (opens d) refl
      where
        go : (x : Bool) → eqb b 40 ≡ x → (y : Bool) → opens d ≡ y → item fits opens f d (b ∷ t) ≡ item fits opens g d (b ∷ t)
        go false e y o = rw (e, item)
        go true e false o = rw (e, o, item)
        go true e true o =
            rw (e, o, item) (then_same (length t) (head t) (head t) _ _ refl (head_short t)
            (λ n z l. ap (λ x. then x (λ its r. got (again n its) r)) (h z (omega arith))))

    after_same : (i : Item) (t : List ℕ) → ((r : List ℕ) → length r < length t → f r ≡ g r) → after fits opens f i t ≡ after fits opens g i t
    unfolding after
    after_same i [] h = refl
    after_same i (b ∷ t) h = go (eqb b 41) refl (eqb b 32) refl
      where
        go : (x : Bool) → eqb b 41 ≡ x → (y : Bool) → eqb b 32 ≡ y → after fits opens f i (b ∷ t) ≡ after fits opens g i (b ∷ t)
        go true e y k = rw (e, after)
        go false e true k = rw (e, k, after) (ap (λ x. then x (λ its r. got (more i its) r)) (h t (omega arith)))
        go false e false k = rw (e, k, after)

  pub fuel : (n m d : ℕ) (t : List ℕ) → length t < n → length t < m → items fits opens n d t ≡ items fits opens m d t
  unfolding items
  fuel zero m d t k l = absurd (omega arith)
  fuel (suc n) zero d t k l = absurd (omega arith)
  fuel (suc n) (suc m) d t k l =
      then_same (length t) _ _ _ _ (item_same _ _ d t (λ r h. fuel n m (suc d) r (omega arith) (omega arith)))
      (item_short fits opens (λ r. items fits opens n (suc d) r) (λ r. items_short fits opens n (suc d) r) d t)
      (λ i z h. after_same _ _ i z (λ r j. fuel n m d r (omega arith) (omega arith)))

  -- a list, with fuel for its text
  abbrev pub list : ℕ → List ℕ → Read Items
  list d t = items fits opens (suc (length t)) d t

  -- an item, with fuel for its inner list
  pub item_is : (n d : ℕ) (t : List ℕ) → length t ≤ n → item fits opens (λ r. list (suc d) r) d t ≡ item fits opens (λ r. items fits opens n (suc d) r) d t
  item_is n d t l = item_same _ _ d t (λ r h. fuel (suc (length r)) n (suc d) r (omega arith) (omega arith))

  -- a list is an item and what follows it
  pub list_is : (d : ℕ) (t : List ℕ) → list d t ≡ then (item fits opens (λ r. list (suc d) r) d t) (λ i z. after fits opens (λ r. list d r) i z)
  unfolding items
  list_is d t =
      then_same (length t) _ _ _ _ (item_same _ _ d t (λ r h. fuel (length t) (suc (length r)) (suc d) r (omega arith) (omega arith)))
      (item_short fits opens (λ r. items fits opens (length t) (suc d) r) (λ r. items_short fits opens (length t) (suc d) r) d t)
      (λ i z h. after_same _ _ i z (λ r j. fuel (length t) (suc (length r)) d r (omega arith) (omega arith)))
