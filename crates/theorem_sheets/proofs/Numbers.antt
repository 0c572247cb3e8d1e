-- The judge refuses with no other numbers than those of its lists of refusals. Assumes nothing.
use Prim.{Unit, tt}
use mathlib.Core.Path.{◌≡◌, refl, subst}
use mathlib.Core.Logic.{◌⊎◌, inl, inr}
use mathlib.Core.Bool.{Bool, true, false}
use mathlib.Core.List.Memᴰ
use mathlib.Core.List.{List, [], ◌∷◌, ◌++◌, Memᴰ}
use Prim.Native.Nat.{ℕ, suc, ◌+◌, ◌-◌, ◌≤◌}
use lib.IntN.{ℤ, nat_abs}
use lib.ListN.{length, take}
use lib.Dec.{ltb, eqb}
use Rattle.rules.specs.Sheets.{bytes, Item, Items, whole, again, one, more, States, states, Axis, axis, Axes, only, next, range, heading, Sheet, sheet}
use Rattle.rules.specs.Sheets.{natural, spell_item, spell_axis, spell_heading, spell_sheet, within, below4, Limited}
use Rattle.rules.specs.SheetFaults.{Refusal, refusal, large, deep, beyond_item, beyond, beyond_states, beyond_axis, beyond_axes, beyond_heading, beyond_sheet}
use Rattle.rules.specs.SheetFaults.{size_of, size, over, unlike, state_sizes, axis_sizes, axes_sizes, first_count, sizes, sized, FirstOfThree, refused, longest}
use Rattle.theorem_sheets.specs.Sheets.{SizesAreEarliest, RefusalsAreEarliest, JudgeNumber, JudgedNumbers}
use Rattle.theorem_sheets.proofs.Precedence.{sizes_are_earliest, refusals_are_earliest}

-- all numbers of a list are the judge's
unfoldable Known : List Refusal → Type 0
Known [] = Unit {0}
Known (refusal k p ∷ xs) = JudgeNumber k × Known xs

both : (xs ys : List Refusal) → Known xs → Known ys → Known (xs ++ ys)
unfolding Known
both [] ys h i = i
both (refusal k p ∷ xs) ys h i = (h.0, both xs ys h.1 i)

member : (xs : List Refusal) (k p : ℕ) → Known xs → Memᴰ (refusal k p) xs → JudgeNumber k
unfolding Known
member [] k p h m = absurd (Memᴰ.not-nil m)
member (refusal j q ∷ xs) k p h m = go (Memᴰ.cases_cons m) (λ n. member xs k p h.1 n)
  where
    go : (refusal k p ≡ refusal j q) ⊎ Memᴰ (refusal k p) xs → (Memᴰ (refusal k p) xs → JudgeNumber k) → JudgeNumber k
    go (inl e) f = let i : j ≡ k = cc in subst JudgeNumber i h.0
    go (inr n) f = f n

-- a refusal where a test says no, and one where it says yes
unless : (x : Bool) (k p : ℕ) → JudgeNumber k → Known (elim x [ true ↦ [] | false ↦ refusal k p ∷ [] ])
unfolding Known
unless true k p h = tt
unless false k p h = (h, tt)

where_yes : (x : Bool) (k p : ℕ) (xs : List Refusal) → JudgeNumber k → Known xs → Known (elim x [ true ↦ refusal k p ∷ [] | false ↦ xs ])
unfolding Known
where_yes true k p xs h i = (h, tt)
where_yes false k p xs h i = i

-- ---- 601 and 4

large_known : (p : ℕ) (z : ℤ) → Known (large p z)
unfolding large
large_known p z = unless (within (nat_abs z)) 4 p (inr (inr (inl refl)))

deep_known : (d p : ℕ) → Known (deep d p)
unfolding deep
deep_known d p = unless (below4 d) 601 p (inr (inl refl))

mutual
  unfolding beyond_item

  item_known : (d p : ℕ) (it : Item) → Known (beyond_item d p it)
  item_known d p (whole z) = large_known p z
  item_known d p (again n its) = both (deep d p) _ (deep_known d p) (items_known (suc d) (p + length (bytes "(again " ++ (natural n ++ bytes " "))) its)

  items_known : (d p : ℕ) (its : Items) → Known (beyond d p its)
  items_known d p (one it) = item_known d p it
  items_known d p (more it its) = both (beyond_item d p it) _ (item_known d p it) (items_known d (p + length (spell_item it ++ bytes " ")) its)

states_known : (p : ℕ) (st : States) → Known (beyond_states p st)
unfolding beyond_states
states_known p (states s e) = both (beyond 0 _ s) _ (items_known 0 _ s) (items_known 0 _ e)

axis_known : (p : ℕ) (a : Axis) → Known (beyond_axis p a)
unfolding beyond_axis
axis_known p (axis pts st) = both (beyond 0 _ pts) _ (items_known 0 _ pts) (states_known _ st)

axes_known : (p : ℕ) (axs : Axes) → Known (beyond_axes p axs)
unfolding beyond_axes
axes_known p (only a) = axis_known p a
axes_known p (next a axs) = both (beyond_axis p a) _ (axis_known p a) (axes_known (p + length (spell_axis a)) axs)

sheet_known : (s : Sheet) → Known (beyond_sheet s)
unfolding beyond_sheet beyond_heading
sheet_known (sheet (heading order (range from to)) axs) =
    both (large _ order ++ (large _ from ++ large _ to)) _
    (both (large _ order) _ (large_known _ order) (both (large _ from) _ (large_known _ from) (large_known _ to)))
    (axes_known _ axs)

-- ---- 2 and 3

over_known : (room p : ℕ) (its : Items) → Known (over room p its)
unfolding over Known
over_known room p (one it) = where_yes (ltb room (size_of it)) 2 p [] (inr (inr (inr (inl refl)))) tt
over_known room p (more it its) =
    where_yes (ltb room (size_of it)) 2 p _ (inr (inr (inr (inl refl)))) (over_known (room - size_of it) (p + length (spell_item it ++ bytes " ")) its)

unlike_known : (count p : ℕ) (its : Items) → Known (unlike count p its)
unfolding unlike
unlike_known count p its = unless (eqb (size its) count) 3 _ (inr (inr (inr (inr refl))))

state_sizes_known : (p : ℕ) (st : States) → Known (state_sizes p st)
unfolding state_sizes
state_sizes_known p (states s e) = both (over 3 _ s) _ (over_known 3 _ s) (over_known 3 _ e)

axis_sizes_known : (count p : ℕ) (a : Axis) → Known (axis_sizes count p a)
unfolding axis_sizes
axis_sizes_known count p (axis pts st) =
    both (over 257 _ pts) _ (over_known 257 _ pts) (both (unlike count _ pts) _ (unlike_known count _ pts) (state_sizes_known _ st))

axes_sizes_known : (count p : ℕ) (axs : Axes) → Known (axes_sizes count p axs)
unfolding axes_sizes
axes_sizes_known count p (only a) = axis_sizes_known count p a
axes_sizes_known count p (next a axs) =
    both (axis_sizes count p a) _ (axis_sizes_known count p a) (axes_sizes_known count (p + length (spell_axis a)) axs)

sizes_known : (s : Sheet) → Known (sizes s)
unfolding sizes
sizes_known (sheet h axs) = axes_sizes_known (first_count axs) (length (spell_heading h)) axs

-- ---- the judgement

pub judged_numbers : JudgedNumbers
unfolding JudgedNumbers SizesAreEarliest RefusalsAreEarliest
judged_numbers t k place e = go (refusals_are_earliest t k place e)
  where
    -- 600, or what every sheet has that begins so; or one of the sizes
    go : FirstOfThree (take longest t) k place
        ⊎ ((length t ≤ longest) × ((s : Sheet) × Limited s × (spell_sheet s ≡ t) × (sized s (sizes s) ≡ refused k place))) → JudgeNumber k
    go (inl f) =
        let s = f.dead.viable in
        elim f.is [
          | inl a ↦ inl a.0
          | inr a ↦ member (beyond_sheet s.«sheet») k place (sheet_known s.«sheet») (a.0.always s.«sheet» s.free s.begins)
        ]
    go (inr (l, (s, v, i, j))) = member (sizes s) k place (sizes_known s) (sizes_are_earliest s k place j).0
