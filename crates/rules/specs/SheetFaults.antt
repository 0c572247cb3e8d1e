-- What a text is refused for, by document 02's Wish 1: 600, 601, 4, 2 and 3 with their places, and which of them is the answer. Assumes nothing.
use Rattle.std.specs.Prelude.{◌≡◌, ◌⊎◌, true, false, ℕ, suc, ◌+◌, ◌*◌, ◌-◌, ◌<◌, ◌≤◌, ℤ, nat_abs, length, take, leb, ltb, eqb}
use mathlib.Core.List.{List, [], ◌∷◌, ◌++◌, Memᴰ}
use Rattle.rules.specs.Sheets.{bytes, Item, Items, whole, again, one, more, States, states, Axis, axis, Axes, only, next, range, Heading, heading, Sheet, sheet, natural, signed, spell_item, spell_items, spell_axis, spell_heading, within, below4, Free, Begins, Viable}
use Rattle.rules.specs.SheetReading.{got, stop, sheet_of}

-- a number and a byte place, counted from 0
pub data Refusal : Type 0 where
  refusal : ℕ → ℕ → Refusal

unfoldable mutual
  -- J23: how many numbers an item stands for, and a list, not written out
  pub size_of : Item → ℕ
  size_of (whole z) = 1
  size_of (again n items) = n * size items

  pub size : Items → ℕ
  size (one i) = size_of i
  size (more i items) = size_of i + size items

-- ---- 600: the grammar

-- J17, J18: 600's place: what stands before it is viable, and with the byte at it, where there is one, it is not
pub record Dead (t : List ℕ) (place : ℕ) : Type 0 where
  pub inside : place ≤ length t
  pub viable : Viable (take place t)
  pub ends : place < length t → Viable (take (suc place) t) → ⊥

-- ---- 601 and 4: the limits

-- J22: "4 the first byte of a number, other than a count, .. beyond ±2^40": a number that starts at a place
unfoldable pub large : ℕ → ℤ → List Refusal
large place z = elim (within (nat_abs z)) [ true ↦ [] | false ↦ refusal 4 place ∷ [] ]

-- J21: "601 the bracket that opens an item inside four `again`"
unfoldable pub deep : ℕ → ℕ → List Refusal
deep d place = elim (below4 d) [ true ↦ [] | false ↦ refusal 601 place ∷ [] ]

-- all of them in a tree, in the order of the text: in an item, and in a list, inside d `again` forms, which starts at a place
unfoldable mutual
  pub beyond_item : ℕ → ℕ → Item → List Refusal
  beyond_item d place (whole z) = large place z
  beyond_item d place (again n items) = deep d place ++ beyond (suc d) (place + length (bytes "(again " ++ (natural n ++ bytes " "))) items

  pub beyond : ℕ → ℕ → Items → List Refusal
  beyond d place (one i) = beyond_item d place i
  beyond d place (more i items) = beyond_item d place i ++ beyond d (place + length (spell_item i ++ bytes " ")) items

unfoldable pub beyond_states : ℕ → States → List Refusal
beyond_states place (states s e) =
    let at_start = place + length (bytes " (start ") in
    let at_end = at_start + length (spell_items s ++ bytes " (end ") in
    beyond 0 at_start s ++ beyond 0 at_end e

unfoldable pub beyond_axis : ℕ → Axis → List Refusal
beyond_axis place (axis p st) =
    let at_points = place + length (bytes "(axis (points ") in
    beyond 0 at_points p ++ beyond_states (at_points + length (spell_items p)) st

unfoldable pub beyond_axes : ℕ → Axes → List Refusal
beyond_axes place (only a) = beyond_axis place a
beyond_axes place (next a axes) = beyond_axis place a ++ beyond_axes (place + length (spell_axis a)) axes

unfoldable pub beyond_heading : Heading → List Refusal
beyond_heading (heading order (range from to)) =
    let atOrder = length (bytes "(order ") in
    let atFrom = atOrder + length (signed order ++ bytes ")\n(range ") in
    let atTo = atFrom + length (signed from ++ bytes " ") in
    large atOrder order ++ (large atFrom from ++ large atTo to)

unfoldable pub beyond_sheet : Sheet → List Refusal
beyond_sheet (sheet h axes) = beyond_heading h ++ beyond_axes (length (spell_heading h)) axes

-- J22: "already beyond ±2^40 in the bytes before any 600": whatever sheet begins with these bytes has the refusal, and its place is among them
pub record Passed (bs : List ℕ) (r place : ℕ) : Type 0 where
  pub among : place < length bs
  pub always : (s : Sheet) → Free s → Begins bs s → Memᴰ (refusal r place) (beyond_sheet s)

-- J16: "first, over the whole text, the earliest place among 600 .., 601 .., 4 ..": r at a place is the answer to a text that is judged whole
pub record FirstOfThree (t : List ℕ) (r place : ℕ) : Type 0 where
  -- where 600 is, or the length of a text that has none
  pub judged : ℕ
  pub dead : Dead t judged
  -- 600 where nothing passes a limit before it, or the earliest that does
  pub is : ((r ≡ 600) × (place ≡ judged) × ((k p : ℕ) → Passed (take judged t) k p → ⊥))
      ⊎ (Passed (take judged t) r place × ((k p : ℕ) → Passed (take judged t) k p → place ≤ p))

-- ---- 2 and 3: the sizes

-- J23: "2 the start of the outermost item in which the 258th point or a state's 4th number falls": a list that starts at a place, with room for so many
unfoldable pub over : ℕ → ℕ → Items → List Refusal
over room place (one i) = elim (ltb room (size_of i)) [ true ↦ refusal 2 place ∷ [] | false ↦ [] ]
over room place (more i items) =
    elim (ltb room (size_of i)) [
      | true ↦ refusal 2 place ∷ []
      | false ↦ over (room - size_of i) (place + length (spell_item i ++ bytes " ")) items
    ]

-- J24: "3 the closing bracket of points unlike axis one's count"
unfoldable pub unlike : ℕ → ℕ → Items → List Refusal
unlike count place p = elim (eqb (size p) count) [ true ↦ [] | false ↦ refusal 3 (place + length (spell_items p) - 1) ∷ [] ]

-- all of them, in the order of the text: of the states and of an axis that start at a place, where axis one has so many points
unfoldable pub state_sizes : ℕ → States → List Refusal
state_sizes place (states s e) =
    let at_start = place + length (bytes " (start ") in
    let at_end = at_start + length (spell_items s ++ bytes " (end ") in
    over 3 at_start s ++ over 3 at_end e

unfoldable pub axis_sizes : ℕ → ℕ → Axis → List Refusal
axis_sizes count place (axis p st) =
    let at_points = place + length (bytes "(axis (points ") in
    over 257 at_points p ++ (unlike count at_points p ++ state_sizes (at_points + length (spell_items p)) st)

unfoldable pub axes_sizes : ℕ → ℕ → Axes → List Refusal
axes_sizes count place (only a) = axis_sizes count place a
axes_sizes count place (next a axes) = axis_sizes count place a ++ axes_sizes count (place + length (spell_axis a)) axes

unfoldable pub first_count : Axes → ℕ
first_count (only (axis p st)) = size p
first_count (next (axis p st) axes) = size p

unfoldable pub sizes : Sheet → List Refusal
sizes (sheet h axes) = axes_sizes (first_count axes) (length (spell_heading h)) axes

-- ---- the answer

-- a sheet that none of 600, 601, 4, 2 and 3 refuses, or the refusal
pub data Judged : Type 0 where
  readable : Sheet → Judged
  refused : ℕ → ℕ → Judged

-- J23, J24: "then the earliest among 2 .., 3 .."
unfoldable pub sized : Sheet → List Refusal → Judged
sized s [] = readable s
sized s (refusal k place ∷ rest) = refused k place

-- J19: "32,768 where it is longer, and only the bytes before that are judged"
abbrev pub longest : ℕ
longest = 32768

unfoldable pub judge : List ℕ → Judged
judge t =
    elim (leb (length t) longest) [
      | true ↦ elim (sheet_of t) [ got s r ↦ sized s (sizes s) | stop k r ↦ refused k (length t - length r) ]
      | false ↦ elim (sheet_of (take longest t)) [ got s r ↦ refused 600 longest | stop k r ↦ refused k (longest - length r) ]
    ]
