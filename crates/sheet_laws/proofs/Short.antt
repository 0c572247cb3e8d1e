-- No reading ends before its start. Assumes nothing.
use mathlib.Core.Path.{◌≡◌, refl}
use mathlib.Core.Bool.{Bool, true, false}
use mathlib.Core.List.{List, [], ◌∷◌}
use Prim.Native.Nat.{ℕ, zero, suc, ◌+◌, ◌-◌, ◌*◌, ◌≤◌}
use native.Mathlib.Omega.{arith}
use lib.ListN.{length}
use lib.Dec.{eqb}
use Rattle.rules.specs.Sheets.{Item, Items, bytes}
use Rattle.rules.specs.SheetReading.{Read, got, stop, then, word, is_first, is_digit, digits, positive, number, count, up_to64, head, form, item, after, items}

-- the text where a reading ended
abbrev pub rest : {A : Type 0} → Read A → List ℕ
rest (got a z) = z
rest (stop k z) = z

pub then_short : {A B : Type 0} (n : ℕ) (x : Read A) (f : A → List ℕ → Read B) → length (rest x) ≤ n → ((a : A) (z : List ℕ) → length (rest (f a z)) ≤ length z)
    → length (rest (then x f)) ≤ n
unfolding then
then_short n (got a z) f h k = let i = k a z in omega arith
then_short n (stop j z) f h k = h

pub word_short : (w t : List ℕ) → length (rest (word w t)) ≤ length t
unfolding word
word_short [] t = omega arith
word_short (w ∷ ws) [] = omega arith
word_short (w ∷ ws) (b ∷ t) = go (eqb b w) refl (word_short ws t)
  where
    go : (x : Bool) → eqb b w ≡ x → length (rest (word ws t)) ≤ length t → length (rest (word (w ∷ ws) (b ∷ t))) ≤ length (b ∷ t)
    go true e h = rw (e, word) (omega arith)
    go false e h = rw (e, word) (omega arith)

module _ (fits : ℕ → Bool) (over : List ℕ → Read ℕ) (s : ℕ) (o : (r : List ℕ) → length r ≤ s → length (rest (over r)) ≤ s) where
  digits_short : (n : ℕ) (t : List ℕ) → length t ≤ s → length (rest (digits fits over n t)) ≤ s
  unfolding digits
  digits_short n [] l = l
  digits_short n (b ∷ t) l = go (is_digit b) refl (fits (n * 10 + (b - 48))) refl (digits_short (n * 10 + (b - 48)) t (omega arith))
    where
      go : (x : Bool) → is_digit b ≡ x → (y : Bool) → fits (n * 10 + (b - 48)) ≡ y → length (rest (digits fits over (n * 10 + (b - 48)) t)) ≤ s
          → length (rest (digits fits over n (b ∷ t))) ≤ s
      go false e y f h = rw (e, digits) l
      go true e false f h = rw (e, f, digits) (o (b ∷ t) l)
      go true e true f h = rw (e, f, digits) h

  positive_short : (t : List ℕ) → length t ≤ s → length (rest (positive fits over t)) ≤ s
  unfolding positive
  positive_short [] l = l
  positive_short (b ∷ t) l = go (is_first b) refl
    where
      go : (x : Bool) → is_first b ≡ x → length (rest (positive fits over (b ∷ t))) ≤ s
      go false e = rw (e, positive) l
      go true e = rw (e, positive) (digits_short (b - 48) t (omega arith))

pub count_short : (t : List ℕ) → length (rest (count t)) ≤ length t
count_short t = positive_short up_to64 (λ r. stop 600 r) (length t) (λ r h. h) t (omega arith)

pub number_short : (fits : ℕ → Bool) (t : List ℕ) → length (rest (number fits t)) ≤ length t
unfolding number
number_short fits [] = omega arith
number_short fits (b ∷ t) = go (eqb b 45) refl (eqb b 48) refl
  where
    go : (x : Bool) → eqb b 45 ≡ x → (y : Bool) → eqb b 48 ≡ y → length (rest (number fits (b ∷ t))) ≤ length (b ∷ t)
    go true e y f =
        rw (e, number)
        (then_short (length (b ∷ t)) (positive fits (λ r. stop 4 (b ∷ t)) t) _
        (positive_short fits (λ r. stop 4 (b ∷ t)) (length (b ∷ t)) (λ r h. omega arith) t (omega arith)) (λ a z. omega arith))
    go false e true f = rw (e, f, number) (omega arith)
    go false e false f =
        rw (e, f, number)
        (then_short (length (b ∷ t)) (positive fits (λ r. stop 4 (b ∷ t)) (b ∷ t)) _
        (positive_short fits (λ r. stop 4 (b ∷ t)) (length (b ∷ t)) (λ r h. omega arith) (b ∷ t) (omega arith)) (λ a z. omega arith))

pub head_short : (t : List ℕ) → length (rest (head t)) ≤ length t
unfolding head
head_short t =
    then_short (length t) (word (bytes "again ") t) _ (word_short (bytes "again ") t)
    (λ u t1. then_short (length t1) (count t1) _ (count_short t1)
    (λ n t2. then_short (length t2) (word (32 ∷ []) t2) _ (word_short (32 ∷ []) t2) (λ v t3. omega arith)))

module _ (fits : ℕ → Bool) (opens : ℕ → Bool) where
  module _ (f : List ℕ → Read Items) (h : (t : List ℕ) → length (rest (f t)) ≤ length t) where
    form_short : (t : List ℕ) → length (rest (form fits opens f t)) ≤ length t
    unfolding form
    form_short t = then_short (length t) (head t) _ (head_short t) (λ n t1. then_short (length t1) (f t1) _ (h t1) (λ its t2. omega arith))

    pub item_short : (d : ℕ) (t : List ℕ) → length (rest (item fits opens f d t)) ≤ length t
    unfolding item
    item_short d [] = omega arith
    item_short d (b ∷ t) = go (eqb b 40) refl (opens d) refl
      where
        go : (x : Bool) → eqb b 40 ≡ x → (y : Bool) → opens d ≡ y → length (rest (item fits opens f d (b ∷ t))) ≤ length (b ∷ t)
        go false e y o = rw (e, item) (then_short (length (b ∷ t)) (number fits (b ∷ t)) _ (number_short fits (b ∷ t)) (λ a z. omega arith))
        go true e false o = rw (e, o, item) (omega arith)
        go true e true o = rw (e, o, item) (let i = form_short t in omega arith)

    pub after_short : (i : Item) (t : List ℕ) → length (rest (after fits opens f i t)) ≤ length t
    unfolding after
    after_short i [] = omega arith
    after_short i (b ∷ t) = go (eqb b 41) refl (eqb b 32) refl
      where
        go : (x : Bool) → eqb b 41 ≡ x → (y : Bool) → eqb b 32 ≡ y → length (rest (after fits opens f i (b ∷ t))) ≤ length (b ∷ t)
        go true e y k = rw (e, after) (omega arith)
        go false e true k = rw (e, k, after) (then_short (length (b ∷ t)) (f t) _ (let j = h t in omega arith) (λ a z. omega arith))
        go false e false k = rw (e, k, after) (omega arith)

  pub items_short : (n d : ℕ) (t : List ℕ) → length (rest (items fits opens n d t)) ≤ length t
  unfolding items
  items_short zero d t = omega arith
  items_short (suc n) d t =
      then_short (length t) (item fits opens (λ r. items fits opens n (suc d) r) d t) _
      (item_short (λ r. items fits opens n (suc d) r) (λ r. items_short n (suc d) r) d t)
      (λ i z. after_short (λ r. items fits opens n d r) (λ r. items_short n d r) i z)
