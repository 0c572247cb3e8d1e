-- One step of reading an item, or a list of items. Assumes nothing.
use Prim.{Unit, tt}
use mathlib.Core.Path.{◌≡◌, ◌∙◌}
use mathlib.Core.Bool.{Bool, true, false}
use mathlib.Core.List.{List, [], ◌∷◌, ◌++◌}
use Prim.Native.Nat.{ℕ, zero, suc}
use lib.Dec.{eqb}
use borrow.Author.Tests.{ne_eqb}
use Rattle.rules.specs.Sheets.{Item, Items, whole, again, one, more}
use Rattle.rules.specs.SheetReading.{Read, got, stop, then, number, head, form, item, after, items}
use Rattle.sheet_laws.proofs.Decimal.{Stops}
use Rattle.sheet_laws.proofs.Words.{Ends, stops_ends}

-- what may follow an item
unfoldable pub ItemEnds : Item → List ℕ → Type 0
ItemEnds (whole z) t = Ends z t
ItemEnds (again n items) t = Unit {0}

pub stops_item : (it : Item) (z : List ℕ) → Stops z → ItemEnds it z
unfolding ItemEnds
stops_item (whole z) t h = stops_ends z t h
stops_item (again n items) t h = tt

-- one less
abbrev pub less : ℕ → ℕ
less zero = zero
less (suc n) = n

module _ (fits : ℕ → Bool) (opens : ℕ → Bool) where
  abbrev pub items_n : ℕ → ℕ → List ℕ → Read Items
  items_n d m t = items fits opens m d t

  abbrev pub item_n : ℕ → ℕ → List ℕ → Read Item
  item_n d m t = item fits opens (λ r. items_n (suc d) (less m) r) d t

  module _ (inner : List ℕ → Read Items) (d : ℕ) where
    pub item_bytes : (b : ℕ) (t : List ℕ) → (b ≡ 40 → ⊥) → item fits opens inner d (b ∷ t) ≡ then (number fits (b ∷ t)) (λ z rest. got (whole z) rest)
    unfolding item
    item_bytes b t h = rw (ne_eqb b 40 h, item)

    -- the first byte of a text with another end
    pub item_same : (b c : ℕ) (t p r y : List ℕ) → (b ≡ 40 → ⊥) → b ∷ t ≡ p ++ (c ∷ r)
        → item fits opens inner d (p ++ (c ∷ y)) ≡ then (number fits (p ++ (c ∷ y))) (λ z rest. got (whole z) rest)
    item_same b c t [] r y h e = let i : b ≡ c = cc in item_bytes c y (λ j. h (i ∙ j))
    item_same b c t (x ∷ p) r y h e = let i : b ≡ x = cc in item_bytes x (p ++ (c ∷ y)) (λ j. h (i ∙ j))

    pub item_deep : (t : List ℕ) → opens d ≡ false → item fits opens inner d (40 ∷ t) ≡ stop 601 (40 ∷ t)
    unfolding item
    item_deep t o = rw o

    pub item_opens : (t : List ℕ) → opens d ≡ true → item fits opens inner d (40 ∷ t) ≡ form fits opens inner t
    unfolding item
    item_opens t o = rw o

    pub item_form : (n : ℕ) (t t1 : List ℕ) → opens d ≡ true → head t ≡ got n t1
        → item fits opens inner d (40 ∷ t) ≡ then (inner t1) (λ its t2. got (again n its) t2)
    unfolding form then
    item_form n t t1 o e = item_opens t o ∙ rw e

  module _ (m d : ℕ) (t : List ℕ) where
    pub items_stop : (k : ℕ) (z : List ℕ) → item_n d (suc m) t ≡ stop k z → items_n d (suc m) t ≡ stop k z
    unfolding items then
    items_stop k z e = rw e

    pub items_step : (it : Item) (z : List ℕ) → item_n d (suc m) t ≡ got it z
        → items_n d (suc m) t ≡ after fits opens (λ r. items_n d m r) it z
    unfolding items then
    items_step it z e = rw e

    pub items_one : (it : Item) (z : List ℕ) → item_n d (suc m) t ≡ got it (41 ∷ z) → items_n d (suc m) t ≡ got (one it) z
    unfolding after
    items_one it z e = items_step it (41 ∷ z) e

    pub items_more : (it : Item) (z : List ℕ) → item_n d (suc m) t ≡ got it (32 ∷ z)
        → items_n d (suc m) t ≡ then (items_n d m z) (λ its rest. got (more it its) rest)
    unfolding after
    items_more it z e = items_step it (32 ∷ z) e

    pub items_end : (it : Item) → item_n d (suc m) t ≡ got it [] → items_n d (suc m) t ≡ stop 600 []
    unfolding after
    items_end it e = items_step it [] e

    pub items_other : (it : Item) (b : ℕ) (z : List ℕ) → eqb b 41 ≡ false → eqb b 32 ≡ false → item_n d (suc m) t ≡ got it (b ∷ z)
        → items_n d (suc m) t ≡ stop 600 (b ∷ z)
    unfolding after
    items_other it b z h k e = items_step it (b ∷ z) e ∙ rw (h, k, after)
