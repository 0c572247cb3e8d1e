-- What the answers of the item routine and the list routine say of the judge's reading. Assumes nothing.
use Rattle.std.specs.Prelude.{◌≡◌, Bool, true, false, List, [], ◌∷◌, ◌++◌, ℕ, suc, ◌+◌, ◌-◌, ◌≤◌, ◌<◌, min, ℤ, length, drop, ltb, Result, Ok, Err}
use Rattle.rules.specs.declared.SheetError.{SheetError}
use Rattle.rules.specs.Sheets.{Item, Items, again, one, more, bytes, spell_item, within, below4}
use Rattle.rules.specs.SheetReading as reading
use Rattle.rules.specs.SheetFaults.{size_of}
use Rattle.rules.specs.SheetAnswers.{numbers, numbers_of}
use Rattle.sheet_puts.specs.Put.{put}
use Rattle.sheet_reading.specs.declared.Count.{Count}
use Rattle.sheet_reading.specs.Says.{stop_at}

-- ---- the judge's reading, with the limits of a sheet and fuel that is enough

-- a list, and an item, inside d `again` forms
abbrev pub list_at : ℕ → List ℕ → reading.Read Items
list_at d t = reading.items within below4 (suc (length t)) d t

abbrev pub item_with : (List ℕ → reading.Read Items) → ℕ → List ℕ → reading.Read Item
item_with inner d t = reading.item within below4 inner d t

abbrev pub item_at : ℕ → List ℕ → reading.Read Item
item_at d t = item_with (λ r. list_at (suc d) r) d t

-- what follows item i of a list; `others` reads the items after it
abbrev pub after_with : (List ℕ → reading.Read Items) → Item → List ℕ → reading.Read Items
after_with others i t = reading.after within below4 others i t

-- where writing numbers ends in a buffer
abbrev pub end_after : List ℤ → ℕ → List ℤ → ℕ
end_after out at xs = min (length out) (at + length xs)

-- ---- an item

-- the heading of a form at a place, read up to `next`, or a fault, whatever the form's list is read as
abbrev pub Opened : List ℕ → ℕ → ℕ → ℕ → Result ℕ SheetError → Type 0
Opened text from d next (Ok n) =
    (from < next) × (next ≤ length text) × (1 ≤ n) × (n ≤ 64) × (d < 4)
    × ((inner : List ℕ → reading.Read Items)
    → item_with inner d (drop from text) ≡ reading.then (inner (drop next text)) (λ items rest. reading.got (again n items) rest))
Opened text from d next (Err e) =
    (e.at ≤ length text) × ((inner : List ℕ → reading.Read Items) → item_with inner d (drop from text) ≡ stop_at text e)

-- the judge reads an item from a place to another, and its numbers are written
pub record ItemTo (text : List ℕ) (from d : ℕ) (out : List ℤ) (at end next : ℕ) (after : List ℤ) : Type 0 where
  pub it : Item
  pub reads : item_at d (drop from text) ≡ reading.got it (drop next text)
  pub forward : from < next
  pub inside : next ≤ length text
  pub ends : end ≡ end_after out at (numbers_of it)
  pub holds : after ≡ put out at (numbers_of it)

-- the judge stops
pub record ItemStops (text : List ℕ) (from d : ℕ) (e : SheetError) : Type 0 where
  pub reads : item_at d (drop from text) ≡ stop_at text e
  pub inside : e.at ≤ length text

abbrev pub ItemFilled : List ℕ → ℕ → ℕ → List ℤ → ℕ → ℕ → Result ℕ SheetError → List ℤ → Type 0
ItemFilled text from d out at next (Ok end) after = ItemTo text from d out at end next after
ItemFilled text from d out at next (Err e) after = ItemStops text from d e

-- the same of a number that stands there
abbrev pub NumberFilled : List ℕ → ℕ → List ℤ → ℕ → ℕ → Result ℕ SheetError → List ℤ → Type 0
NumberFilled text from out at next (Ok end) after =
    (z : ℤ) × (reading.number within (drop from text) ≡ reading.got z (drop next text)) × (from < next) × (next ≤ length text)
    × (end ≡ end_after out at (z ∷ [])) × (after ≡ put out at (z ∷ []))
NumberFilled text from out at next (Err e) after =
    (reading.number within (drop from text) ≡ stop_at text e) × (e.at ≤ length text)

-- ---- a list

-- the start of the item in which one number more than there is room for falls, where there is such an item; else of the last item
unfoldable pub over_at : ℕ → ℕ → Items → ℕ
over_at room place (one i) = place
over_at room place (more i items) =
    elim (ltb room (size_of i)) [ true ↦ place | false ↦ over_at (room - size_of i) (place + length (spell_item i ++ bytes " ")) items ]

-- the judge reads a list from a place to another, and its numbers are written; and where there was room at all, where it was used up
pub record ListTo (text : List ℕ) (from d : ℕ) (out : List ℤ) (at end next over : ℕ) (after : List ℤ) : Type 0 where
  pub items : Items
  pub reads : list_at d (drop from text) ≡ reading.got items (drop next text)
  pub forward : from < next
  pub inside : next ≤ length text
  pub ends : end ≡ end_after out at (numbers items)
  pub holds : after ≡ put out at (numbers items)
  pub overs : at < length out → over ≡ over_at (length out - at - 1) from items

pub record ListStops (text : List ℕ) (from d : ℕ) (e : SheetError) : Type 0 where
  pub reads : list_at d (drop from text) ≡ stop_at text e
  pub inside : e.at ≤ length text

abbrev pub ListFilled : List ℕ → ℕ → ℕ → List ℤ → ℕ → ℕ → Result Count SheetError → List ℤ → Type 0
ListFilled text from d out at next (Ok r) after = ListTo text from d out at r.numbers next r.over after
ListFilled text from d out at next (Err e) after = ListStops text from d e

-- what follows an item that was read up to a place, which is passed: another item, the closing bracket, or a fault
abbrev pub Following : List ℕ → ℕ → ℕ → Result Bool SheetError → Type 0
Following text from next (Ok true) =
    (next ≡ from + 1) × (next ≤ length text)
    × ((others : List ℕ → reading.Read Items) (i : Item)
    → after_with others i (drop from text) ≡ reading.then (others (drop next text)) (λ items rest. reading.got (more i items) rest))
Following text from next (Ok false) =
    (next ≡ from + 1) × (next ≤ length text)
    × ((others : List ℕ → reading.Read Items) (i : Item) → after_with others i (drop from text) ≡ reading.got (one i) (drop next text))
Following text from next (Err e) =
    (e.at ≤ length text) × ((others : List ℕ → reading.Read Items) (i : Item) → after_with others i (drop from text) ≡ stop_at text e)
