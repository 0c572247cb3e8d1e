-- Job sheets, by document 02's Wish 1: a sheet as a tree, its spelling, which trees are valid, and what may come after given bytes. A text is a
-- sheet exactly when it is the spelling of a valid tree. Assumes nothing.
use Rattle.std.specs.Prelude.{◌≡◌, Bool, true, false, List, [], ◌∷◌, ◌++◌, ℕ, zero, suc, ◌+◌, ◌/◌, ◌%◌, ◌^◌, ◌≤◌, ℤ, pos, negsuc, nat_abs, leb, ltb}
use Prim.Native.Char.{code}
use Prim.Native.String.{String, [] as «empty», ◌∷◌ as ◌«then»◌}

-- the bytes of a text of ASCII characters
abbrev pub bytes : String → List ℕ
bytes «empty» = []
bytes (c «then» s) = code c ∷ bytes s

-- ---- trees

mutual
  -- J4: "an item of a list may be a number or a bracketed list of items, always headed `again`", with a count
  pub data Item : Type 0 where
    whole : ℤ → Item
    again : ℕ → Items → Item

  -- J6: "one or more items .. (as in every list)"
  pub data Items : Type 0 where
    one : Item → Items
    more : Item → Items → Items

-- J1, J8: an axis has points, and the states start and end; lists are these three
pub data States : Type 0 where
  states : Items → Items → States

pub data Axis : Type 0 where
  axis : Items → States → Axis

-- one or more axes
pub data Axes : Type 0 where
  only : Axis → Axes
  next : Axis → Axes → Axes

-- J1: the order and the range; then the axes
pub data Range : Type 0 where
  range : ℤ → ℤ → Range

pub data Heading : Type 0 where
  heading : ℤ → Range → Heading

pub data Sheet : Type 0 where
  sheet : Heading → Axes → Sheet

-- ---- the spelling

-- J3: the decimal digits of n, first digit first, so that none leads with 0. n has at most n + 1 digits.
unfoldable pub decimal : ℕ → ℕ → List ℕ
decimal zero n = []
decimal (suc most) n = elim (ltb n 10) [ true ↦ (48 + n) ∷ [] | false ↦ decimal most (n / 10) ++ ((48 + n % 10) ∷ []) ]

unfoldable pub natural : ℕ → List ℕ
natural n = decimal (suc n) n

-- J3: "whole numbers with an optional minus": a number below 0 has it, and no other
unfoldable pub signed : ℤ → List ℕ
signed (pos n) = natural n
signed (negsuc n) = bytes "-" ++ natural (suc n)

unfoldable mutual
  -- J4: a number, or a form with its count
  pub spell_item : Item → List ℕ
  spell_item (whole z) = signed z
  spell_item (again n items) = bytes "(again " ++ (natural n ++ (bytes " " ++ spell_items items))

  -- J2: "one space between items", and the bracket that closes the list
  pub spell_items : Items → List ℕ
  spell_items (one i) = spell_item i ++ bytes ")"
  spell_items (more i items) = spell_item i ++ (bytes " " ++ spell_items items)

-- J1, J2: "(axis (points 0 4 8) (start 0) (end 0))" and "a newline after each line"
unfoldable pub spell_states : States → List ℕ
spell_states (states s e) = (bytes " (start " ++ spell_items s) ++ ((bytes " (end " ++ spell_items e) ++ bytes ")\n")

unfoldable pub spell_axis : Axis → List ℕ
spell_axis (axis p st) = (bytes "(axis (points " ++ spell_items p) ++ spell_states st

unfoldable pub spell_axes : Axes → List ℕ
spell_axes (only a) = spell_axis a
spell_axes (next a axes) = spell_axis a ++ spell_axes axes

-- J1, J2: "(order 3)" and "(range 0 2)", each with its newline
unfoldable pub spell_range : Range → List ℕ
spell_range (range from to) = (bytes ")\n(range " ++ signed from) ++ ((bytes " " ++ signed to) ++ bytes ")\n")

unfoldable pub spell_heading : Heading → List ℕ
spell_heading (heading order r) = (bytes "(order " ++ signed order) ++ spell_range r

unfoldable pub spell_sheet : Sheet → List ℕ
spell_sheet (sheet h axes) = spell_heading h ++ spell_axes axes

-- ---- valid trees

-- `fits`: which magnitudes a number may have; `opens`: inside how many `again` forms an item may be one more
module _ (fits : ℕ → Bool) (opens : ℕ → Bool) where
  -- an item, and a list, inside d forms
  unfoldable mutual
    -- J6, J20: "with 1 to 64 as the count"
    pub ValidItem : Item → ℕ → Type 0
    ValidItem (whole z) d = fits (nat_abs z) ≡ true
    ValidItem (again n items) d = (opens d ≡ true) × ((1 ≤ n) × (n ≤ 64)) × ValidItems items (suc d)

    pub ValidItems : Items → ℕ → Type 0
    ValidItems (one i) d = ValidItem i d
    ValidItems (more i items) d = ValidItem i d × ValidItems items d

  unfoldable pub ValidStates : States → Type 0
  ValidStates (states s e) = ValidItems s 0 × ValidItems e 0

  unfoldable pub ValidAxis : Axis → Type 0
  ValidAxis (axis p st) = ValidItems p 0 × ValidStates st

  -- J1, J20: at most so many axes
  unfoldable pub ValidAxes : Axes → ℕ → Type 0
  ValidAxes (only a) zero = ⊥
  ValidAxes (only a) (suc most) = ValidAxis a
  ValidAxes (next a axes) zero = ⊥
  ValidAxes (next a axes) (suc most) = ValidAxis a × ValidAxes axes most

  unfoldable pub ValidHeading : Heading → Type 0
  ValidHeading (heading order (range from to)) = (fits (nat_abs order) ≡ true) × (fits (nat_abs from) ≡ true) × (fits (nat_abs to) ≡ true)

  -- J1, J20: "1 to 8 lines `(axis ..)`"
  unfoldable pub ValidSheet : Sheet → Type 0
  ValidSheet (sheet h axes) = ValidHeading h × ValidAxes axes 8

-- J17: "nested or numbered without limit"
abbrev pub unlimited : ℕ → Bool
unlimited n = true

-- J22: a number's limit is 2^40
abbrev pub within : ℕ → Bool
within n = leb n (2 ^ 40)

-- J7: "at most 4 `again` forms inside one another"
abbrev pub below4 : ℕ → Bool
below4 d = ltb d 4

-- a sheet, nested and numbered without limit; and one within the limits
abbrev pub Free : Sheet → Type 0
Free s = ValidSheet unlimited unlimited s

abbrev pub Limited : Sheet → Type 0
Limited s = ValidSheet within below4 s

-- ---- what may come after given bytes

-- a sheet's spelling begins with these bytes
pub record Begins (bs : List ℕ) (s : Sheet) : Type 0 where
  pub rest : List ℕ
  pub spelled : spell_sheet s ≡ bs ++ rest

-- J17: a beginning is viable when some sheet, nested or numbered without limit, begins with it
pub record Viable (bs : List ℕ) : Type 0 where
  pub «sheet» : Sheet
  pub free : Free «sheet»
  pub begins : Begins bs «sheet»
