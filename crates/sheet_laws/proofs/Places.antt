-- The lists of refusals that are computed from a tree have rising places, so the first of a list is the earliest. Assumes nothing.
use Prim.{Unit, tt}
use mathlib.Core.Path.{◌≡◌, refl, sym, ap, ◌∙◌}
use mathlib.Core.Logic.{◌⊎◌, inl, inr}
use mathlib.Core.Bool.{Bool, true, false}
use mathlib.Core.List.Memᴰ
use mathlib.Core.List.{List, [], ◌∷◌, ◌++◌, Memᴰ}
use Prim.Native.Nat.{ℕ, zero, suc, ◌+◌, ◌-◌, ◌<◌, ◌≤◌}
use native.Mathlib.Omega.{arith}
use lib.IntN.{ℤ, pos, negsuc, nat_abs}
use lib.ListN.{length, length-append}
use lib.Dec.{ltb, eqb}
use Rattle.rules.specs.Sheets.{
  bytes,
  Item,
  Items,
  whole,
  again,
  one,
  more,
  States,
  states,
  Axis,
  axis,
  Axes,
  only,
  next,
  range,
  Heading,
  heading,
  Sheet,
  sheet,
  decimal,
  natural,
  signed,
  spell_item,
  spell_items,
  spell_states,
  spell_axis,
  spell_axes,
  spell_range,
  spell_heading,
  spell_sheet,
  within,
  below4,
}
use Rattle.rules.specs.SheetFaults.{
  Refusal,
  refusal,
  size_of,
  size,
  large,
  deep,
  beyond_item,
  beyond,
  beyond_states,
  beyond_axis,
  beyond_axes,
  beyond_heading,
  beyond_sheet,
  over,
  unlike,
  state_sizes,
  axis_sizes,
  axes_sizes,
  first_count,
  sizes,
}
use Rattle.sheet_laws.proofs.LimitItems.{natural_first}

-- other numbers than 600, at places that rise, from a lowest place to before an end
unfoldable pub Rising : ℕ → ℕ → List Refusal → Type 0
Rising low end [] = Unit {0}
Rising low end (refusal k p ∷ xs) = (k ≡ 600 → ⊥) × (low ≤ p) × (p < end) × Rising (suc p) end xs

widen : (xs : List Refusal) (low low' end end' : ℕ) → low' ≤ low → end ≤ end' → Rising low end xs → Rising low' end' xs
unfolding Rising
widen [] low low' end end' h k r = tt
widen (refusal j p ∷ xs) low low' end end' h k r =
    (r.0, omega (arith, r.1), omega (arith, r.2), widen xs (suc p) (suc p) end end' (omega arith) k r.3)

join : (xs ys : List Refusal) (low middle end : ℕ) → low ≤ middle → middle ≤ end → Rising low middle xs → Rising middle end ys → Rising low end (xs ++ ys)
unfolding Rising
join [] ys low middle end h k r q = widen ys middle low end end h (omega arith) q
join (refusal j p ∷ xs) ys low middle end h k r q =
    (r.0, r.1, omega (arith, r.2), join xs ys (suc p) middle end r.2 k r.3 q)

lowest : (xs : List Refusal) (low end k p : ℕ) → Rising low end xs → Memᴰ (refusal k p) xs → low ≤ p
unfolding Rising
lowest [] low end k p r m = absurd (Memᴰ.not-nil m)
lowest (refusal j q ∷ xs) low end k p r m = go (Memᴰ.cases_cons m) (λ n. lowest xs (suc q) end k p r.3 n)
  where
    go : (refusal k p ≡ refusal j q) ⊎ Memᴰ (refusal k p) xs → (Memᴰ (refusal k p) xs → suc q ≤ p) → low ≤ p
    go (inl e) h = let i : p ≡ q = cc in omega (arith, r.1)
    go (inr n) h = omega (arith, r.1, h n)

-- the first is the earliest
pub earliest : (xs : List Refusal) (low end j q k p : ℕ) → Rising low end (refusal j q ∷ xs) → Memᴰ (refusal k p) (refusal j q ∷ xs) → q ≤ p
unfolding Rising
earliest xs low end j q k p r m = lowest (refusal j q ∷ xs) q end k p (r.0, omega arith, r.2, r.3) m

-- and no place has two
pub same_number : (xs : List Refusal) (low end k j p : ℕ) → Rising low end xs → Memᴰ (refusal k p) xs → Memᴰ (refusal j p) xs → k ≡ j
unfolding Rising
same_number [] low end k j p r m n = absurd (Memᴰ.not-nil m)
same_number (refusal i q ∷ xs) low end k j p r m n =
    go (Memᴰ.cases_cons m) (Memᴰ.cases_cons n) (λ a b. same_number xs (suc q) end k j p r.3 a b) (λ c a. lowest xs (suc q) end c p r.3 a)
  where
    go : (refusal k p ≡ refusal i q) ⊎ Memᴰ (refusal k p) xs → (refusal j p ≡ refusal i q) ⊎ Memᴰ (refusal j p) xs
        → (Memᴰ (refusal k p) xs → Memᴰ (refusal j p) xs → k ≡ j) → ((c : ℕ) → Memᴰ (refusal c p) xs → suc q ≤ p) → k ≡ j
    go (inl e) (inl f) h l = let a : k ≡ i = cc in let b : j ≡ i = cc in a ∙ sym b
    go (inl e) (inr b) h l = let a : p ≡ q = cc in absurd (omega (arith, l j b))
    go (inr a) (inl f) h l = let b : p ≡ q = cc in absurd (omega (arith, l k a))
    go (inr a) (inr b) h l = h a b

-- ---- lengths of spellings

signed_long : (z : ℤ) → 1 ≤ length (signed z)
unfolding signed natural decimal
signed_long (pos zero) = omega arith
signed_long (pos (suc n)) = let x = natural_first (suc n) (omega arith) in omega (arith, ap length x.2)
signed_long (negsuc n) = omega arith

item_long : (it : Item) → 1 ≤ length (spell_item it)
unfolding spell_item
item_long (whole z) = signed_long z
item_long (again n its) = omega arith

one_length : (it : Item) → length (spell_items (one it)) ≡ length (spell_item it) + 1
unfolding spell_item
one_length it = length-append (spell_item it) (bytes ")")

more_length : (it : Item) (its : Items) → length (spell_items (more it its)) ≡ length (spell_item it ++ bytes " ") + length (spell_items its)
unfolding spell_item
more_length it its = let a = length-append (spell_item it) (bytes " " ++ spell_items its) in omega (arith, length-append (spell_item it) (bytes " "))

items_long : (its : Items) → 2 ≤ length (spell_items its)
items_long (one it) = omega (arith, one_length it, item_long it)
items_long (more it its) = omega (arith, more_length it its, length-append (spell_item it) (bytes " "), item_long it)

again_length : (n : ℕ) (its : Items) → length (spell_item (again n its)) ≡ length (bytes "(again " ++ (natural n ++ bytes " ")) + length (spell_items its)
unfolding spell_item
again_length n its = let a = length-append (natural n) (bytes " " ++ spell_items its) in omega (arith, length-append (natural n) (bytes " "))

states_length : (s e : Items)
    → length (spell_states (states s e)) ≡ length (bytes " (start ") + length (spell_items s ++ bytes " (end ") + length (spell_items e) + length (bytes ")\n")
unfolding spell_states
states_length s e =
    let a = length-append (bytes " (start " ++ spell_items s) ((bytes " (end " ++ spell_items e) ++ bytes ")\n") in
    let b = length-append (bytes " (end " ++ spell_items e) (bytes ")\n") in
    let c = length-append (spell_items s) (bytes " (end ") in
    omega arith

axis_length : (p : Items) (st : States) → length (spell_axis (axis p st)) ≡ length (bytes "(axis (points ") + length (spell_items p) + length (spell_states st)
unfolding spell_axis
axis_length p st = omega (arith, length-append (bytes "(axis (points " ++ spell_items p) (spell_states st))

heading_length : (order from to : ℤ)
    → length (spell_heading (heading order (range from to)))
    ≡ length (bytes "(order ") + length (signed order ++ bytes ")\n(range ") + length (signed from ++ bytes " ") + length (signed to) + length (bytes ")\n")
unfolding spell_heading spell_range
heading_length order from to =
    let a = length-append (bytes "(order " ++ signed order) ((bytes ")\n(range " ++ signed from) ++ ((bytes " " ++ signed to) ++ bytes ")\n")) in
    let b = length-append (bytes ")\n(range " ++ signed from) ((bytes " " ++ signed to) ++ bytes ")\n") in
    let c = length-append (bytes " " ++ signed to) (bytes ")\n") in
    let d = length-append (signed order) (bytes ")\n(range ") in
    let e = length-append (signed from) (bytes " ") in
    omega arith

-- ---- 601 and 4

large_rising : (p end : ℕ) (z : ℤ) → p < end → Rising p end (large p z)
unfolding large Rising
large_rising p end z h = go (within (nat_abs z)) refl
  where
    go : (x : Bool) → within (nat_abs z) ≡ x → Rising p end (large p z)
    go true e = rw (e, large) tt
    go false e = rw (e, large) (λ i. omega arith, omega arith, h, tt)

deep_rising : (d p end : ℕ) → p < end → Rising p end (deep d p)
unfolding deep Rising
deep_rising d p end h = go (below4 d) refl
  where
    go : (x : Bool) → below4 d ≡ x → Rising p end (deep d p)
    go true e = rw (e, deep) tt
    go false e = rw (e, deep) (λ i. omega arith, omega arith, h, tt)

mutual
  unfolding beyond_item spell_item

  item_rising : (it : Item) (d p : ℕ) → Rising p (p + length (spell_item it)) (beyond_item d p it)
  item_rising (whole z) d p = large_rising p (p + length (signed z)) z (omega (arith, signed_long z))
  item_rising (again n its) d p =
      let q = p + length (bytes "(again " ++ (natural n ++ bytes " ")) in
      let l = again_length n its in
      join (deep d p) (beyond (suc d) q its) p q _ (omega arith) (omega arith) (deep_rising d p q (omega arith))
      (widen (beyond (suc d) q its) q q (q + length (spell_items its)) _ (omega arith) (omega arith) (items_rising its (suc d) q))

  items_rising : (its : Items) (d p : ℕ) → Rising p (p + length (spell_items its)) (beyond d p its)
  items_rising (one it) d p = widen (beyond_item d p it) p p (p + length (spell_item it)) _ (omega arith) (omega (arith, one_length it)) (item_rising it d p)
  items_rising (more it its) d p =
      let q = p + length (spell_item it ++ bytes " ") in
      let l = more_length it its in
      let a = length-append (spell_item it) (bytes " ") in
      join (beyond_item d p it) (beyond d q its) p q _ (omega arith) (omega arith)
      (widen (beyond_item d p it) p p (p + length (spell_item it)) q (omega arith) (omega arith) (item_rising it d p))
      (widen (beyond d q its) q q (q + length (spell_items its)) _ (omega arith) (omega arith) (items_rising its d q))

states_rising : (st : States) (p : ℕ) → Rising p (p + length (spell_states st)) (beyond_states p st)
unfolding beyond_states
states_rising (states s e) p =
    let a = p + length (bytes " (start ") in
    let b = a + length (spell_items s ++ bytes " (end ") in
    let l = states_length s e in
    let k = length-append (spell_items s) (bytes " (end ") in
    join (beyond 0 a s) (beyond 0 b e) p b _ (omega arith) (omega arith)
    (widen (beyond 0 a s) a p (a + length (spell_items s)) b (omega arith) (omega arith) (items_rising s 0 a))
    (widen (beyond 0 b e) b b (b + length (spell_items e)) _ (omega arith) (omega arith) (items_rising e 0 b))

axis_rising : (a : Axis) (p : ℕ) → Rising p (p + length (spell_axis a)) (beyond_axis p a)
unfolding beyond_axis
axis_rising (axis pts st) p =
    let a = p + length (bytes "(axis (points ") in
    let b = a + length (spell_items pts) in
    let l = axis_length pts st in
    join (beyond 0 a pts) (beyond_states b st) p b _ (omega arith) (omega arith)
    (widen (beyond 0 a pts) a p b b (omega arith) (omega arith) (items_rising pts 0 a))
    (widen (beyond_states b st) b b (b + length (spell_states st)) _ (omega arith) (omega arith) (states_rising st b))

axes_rising : (axs : Axes) (p : ℕ) → Rising p (p + length (spell_axes axs)) (beyond_axes p axs)
unfolding beyond_axes spell_axes
axes_rising (only a) p = axis_rising a p
axes_rising (next a axs) p =
    let b = p + length (spell_axis a) in
    let l = length-append (spell_axis a) (spell_axes axs) in
    join (beyond_axis p a) (beyond_axes b axs) p b _ (omega arith) (omega arith) (axis_rising a p)
    (widen (beyond_axes b axs) b b (b + length (spell_axes axs)) _ (omega arith) (omega arith) (axes_rising axs b))

heading_rising : (h : Heading) → Rising 0 (length (spell_heading h)) (beyond_heading h)
unfolding beyond_heading
heading_rising (heading order (range from to)) =
    let a = length (bytes "(order ") in
    let b = a + length (signed order ++ bytes ")\n(range ") in
    let c = b + length (signed from ++ bytes " ") in
    let l = heading_length order from to in
    let i = length-append (signed order) (bytes ")\n(range ") in
    let j = length-append (signed from) (bytes " ") in
    join (large a order) (large b from ++ large c to) 0 b _ (omega arith) (omega arith)
    (widen (large a order) a 0 b b (omega arith) (omega arith) (large_rising a b order (omega arith)))
    (join (large b from) (large c to) b c _ (omega arith) (omega arith) (large_rising b c from (omega arith))
    (large_rising c _ to (omega (arith, signed_long to))))

pub sheet_rising : (s : Sheet) → Rising 0 (length (spell_sheet s)) (beyond_sheet s)
unfolding beyond_sheet spell_sheet
sheet_rising (sheet h axs) =
    let b = length (spell_heading h) in
    let l = length-append (spell_heading h) (spell_axes axs) in
    join (beyond_heading h) (beyond_axes b axs) 0 b _ (omega arith) (omega arith) (heading_rising h)
    (widen (beyond_axes b axs) b b (b + length (spell_axes axs)) _ (omega arith) (omega arith) (axes_rising axs b))

-- ---- 2 and 3

-- the last byte of a list is its bracket
over_rising : (its : Items) (room p end : ℕ) → p + length (spell_items its) ≤ suc end → Rising p end (over room p its)
unfolding over Rising
over_rising (one it) room p end h = go (ltb room (size_of it)) refl
  where
    go : (x : Bool) → ltb room (size_of it) ≡ x → Rising p end (over room p (one it))
    go true e = rw (e, over) (λ i. omega arith, omega arith, omega (arith, one_length it, item_long it), tt)
    go false e = rw (e, over) tt
over_rising (more it its) room p end h =
    let l = more_length it its in
    let k = length-append (spell_item it) (bytes " ") in
    go (ltb room (size_of it)) refl (over_rising its (room - size_of it) (p + length (spell_item it ++ bytes " ")) end (omega arith))
  where
    go : (x : Bool) → ltb room (size_of it) ≡ x
        → Rising (p + length (spell_item it ++ bytes " ")) end (over (room - size_of it) (p + length (spell_item it ++ bytes " ")) its)
        → Rising p end (over room p (more it its))
    go true e r =
        let l = more_length it its in
        let k = length-append (spell_item it) (bytes " ") in
        rw (e, over) (λ i. omega arith, omega arith, omega (arith, item_long it), tt)
    go false e r =
        let q = p + length (spell_item it ++ bytes " ") in
        rw (e, over) (widen (over (room - size_of it) q its) q p end end (omega arith) (omega arith) r)

unlike_rising : (its : Items) (count p : ℕ) → Rising (p + length (spell_items its) - 1) (p + length (spell_items its)) (unlike count p its)
unfolding unlike Rising
unlike_rising its count p = go (eqb (size its) count) refl
  where
    go : (x : Bool) → eqb (size its) count ≡ x → Rising (p + length (spell_items its) - 1) (p + length (spell_items its)) (unlike count p its)
    go true e = rw (e, unlike) tt
    go false e = rw (e, unlike) (λ i. omega arith, omega arith, omega (arith, items_long its), tt)

state_sizes_rising : (st : States) (p : ℕ) → Rising p (p + length (spell_states st)) (state_sizes p st)
unfolding state_sizes
state_sizes_rising (states s e) p =
    let a = p + length (bytes " (start ") in
    let b = a + length (spell_items s ++ bytes " (end ") in
    let l = states_length s e in
    let k = length-append (spell_items s) (bytes " (end ") in
    join (over 3 a s) (over 3 b e) p b _ (omega arith) (omega arith)
    (widen (over 3 a s) a p b b (omega arith) (omega arith) (over_rising s 3 a b (omega arith)))
    (over_rising e 3 b _ (omega arith))

axis_sizes_rising : (a : Axis) (count p : ℕ) → Rising p (p + length (spell_axis a)) (axis_sizes count p a)
unfolding axis_sizes
axis_sizes_rising (axis pts st) count p =
    let a = p + length (bytes "(axis (points ") in
    let b = a + length (spell_items pts) in
    let c = b - 1 in
    let l = axis_length pts st in
    let k = items_long pts in
    join (over 257 a pts) (unlike count a pts ++ state_sizes b st) p c _ (omega arith) (omega arith)
    (widen (over 257 a pts) a p c c (omega arith) (omega arith) (over_rising pts 257 a c (omega arith)))
    (join (unlike count a pts) (state_sizes b st) c b _ (omega arith) (omega arith) (unlike_rising pts count a)
    (widen (state_sizes b st) b b (b + length (spell_states st)) _ (omega arith) (omega arith) (state_sizes_rising st b)))

axes_sizes_rising : (axs : Axes) (count p : ℕ) → Rising p (p + length (spell_axes axs)) (axes_sizes count p axs)
unfolding axes_sizes spell_axes
axes_sizes_rising (only a) count p = axis_sizes_rising a count p
axes_sizes_rising (next a axs) count p =
    let b = p + length (spell_axis a) in
    let l = length-append (spell_axis a) (spell_axes axs) in
    join (axis_sizes count p a) (axes_sizes count b axs) p b _ (omega arith) (omega arith) (axis_sizes_rising a count p)
    (widen (axes_sizes count b axs) b b (b + length (spell_axes axs)) _ (omega arith) (omega arith) (axes_sizes_rising axs count b))

pub sizes_rising : (s : Sheet) → Rising 0 (length (spell_sheet s)) (sizes s)
unfolding sizes spell_sheet
sizes_rising (sheet h axs) =
    let b = length (spell_heading h) in
    let l = length-append (spell_heading h) (spell_axes axs) in
    widen (axes_sizes (first_count axs) b axs) b 0 (b + length (spell_axes axs)) _ (omega arith) (omega arith) (axes_sizes_rising axs (first_count axs) b)
