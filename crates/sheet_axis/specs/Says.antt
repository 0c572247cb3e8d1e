-- What the answers for an axis of a job sheet say of the judge's reading. Assumes nothing.
use Rattle.std.specs.Prelude.{◌≡◌, List, ℕ, ◌+◌, ◌-◌, ◌≤◌, ◌<◌, min, ℤ, length, drop, Result, Ok, Err}
use Rattle.rules.specs.declared.SheetError.{SheetError}
use Rattle.rules.specs.Sheets.{Items, states, axis, bytes, spell_items, spell_states, spell_axis, ValidItems, within, below4}
use Rattle.rules.specs.SheetReading as reading
use Rattle.rules.specs.SheetFaults.{size}
use Rattle.rules.specs.SheetAnswers.{numbers}
use Rattle.sheet_puts.specs.Put.{put}
use Rattle.sheet_reading.specs.declared.Count.{Count}
use Rattle.sheet_reading.specs.Says.{stop_at}
use Rattle.sheet_items.specs.Says.{over_at}
use Rattle.sheet_axis.specs.declared.StateSizes.{StateSizes}
use Rattle.sheet_sizes.specs.declared.AxisSizes.{AxisSizes}

-- ---- readings from a place of a text

-- a reading comes to a value and another place, or stops at a place, with every fuel that is enough for the text
pub record Reads {A : Type 0} (P : ℕ → List ℕ → reading.Read A) (text : List ℕ) (from : ℕ) (a : A) (next : ℕ) : Type 0 where
  pub says : (n : ℕ) → length text < n → P n (drop from text) ≡ reading.got a (drop next text)
  pub inside : next ≤ length text

pub record Stops {A : Type 0} (P : ℕ → List ℕ → reading.Read A) (text : List ℕ) (from : ℕ) (e : SheetError) : Type 0 where
  pub says : (n : ℕ) → length text < n → P n (drop from text) ≡ stop_at text e
  pub inside : e.at ≤ length text

-- ---- a list after fixed bytes

abbrev pub led_list : List ℕ → ℕ → List ℕ → reading.Read Items
led_list w = reading.lead w (reading.read_list within below4)

-- a list that starts at a place is valid, counted and written from the start of a buffer, as far as that holds it
pub record ListIn (place : ℕ) (out : List ℤ) (items : Items) (count : Count) (after : List ℤ) : Type 0 where
  pub valid : ValidItems within below4 items 0
  pub counts : count.numbers ≡ min (length out) (size items)
  pub overs : 0 < length out → count.over ≡ over_at (length out - 1) place items
  pub holds : after ≡ put out 0 (numbers items)

-- a list is read by P, which has as many bytes before it as w and as many after it as `behind`
pub record ListRead (P : ℕ → List ℕ → reading.Read Items) (w behind : List ℕ) (text : List ℕ) (from : ℕ) (out : List ℤ) (count : Count) (next : ℕ)
    (after : List ℤ) : Type 0 where
  pub items : Items
  pub reads : Reads P text from items next
  pub within : ListIn (from + length w) out items count after
  pub ends : next ≡ from + length w + length (spell_items items) + length behind

abbrev pub ListSays : (ℕ → List ℕ → reading.Read Items) → List ℕ → List ℕ → List ℕ → ℕ → List ℤ → ℕ → Result Count SheetError → List ℤ → Type 0
ListSays P w behind text from out next (Ok count) after = ListRead P w behind text from out count next after
ListSays P w behind text from out next (Err e) after = Stops P text from e

-- ---- the states of an axis, and an axis

pub record StatesTo (text : List ℕ) (from : ℕ) (start end : List ℤ) (z : StateSizes) (next : ℕ) (startAfter end_after : List ℤ) : Type 0 where
  pub starts : Items
  pub ends : Items
  pub reads : Reads (reading.read_states within below4) text from (states starts ends) next
  pub next_is : next ≡ from + length (spell_states (states starts ends))
  pub start_in : ListIn (from + length (bytes " (start ")) start starts z.start startAfter
  pub end_in : ListIn (from + length (bytes " (start ") + length (spell_items starts) + length (bytes " (end ")) end ends z.end end_after

abbrev pub StatesSay : List ℕ → ℕ → List ℤ → List ℤ → ℕ → Result StateSizes SheetError → List ℤ → List ℤ → Type 0
StatesSay text from start end next (Ok z) startAfter end_after = StatesTo text from start end z next startAfter end_after
StatesSay text from start end next (Err e) startAfter end_after = Stops (reading.read_states within below4) text from e

pub record AxisTo (text : List ℕ) (from : ℕ) (points start end : List ℤ) (z : AxisSizes) (next : ℕ) (pointsAfter startAfter end_after : List ℤ)
    : Type 0 where
  pub pts : Items
  pub starts : Items
  pub ends : Items
  pub reads : Reads (reading.read_axis within below4) text from (axis pts (states starts ends)) next
  pub next_is : next ≡ from + length (spell_axis (axis pts (states starts ends)))
  pub points_in : ListIn (from + length (bytes "(axis (points ")) points pts z.points pointsAfter
  pub close_is : z.close ≡ from + length (bytes "(axis (points ") + length (spell_items pts) - 1
  pub start_in : ListIn (z.close + 1 + length (bytes " (start ")) start starts z.start startAfter
  pub end_in : ListIn (z.close + 1 + length (bytes " (start ") + length (spell_items starts) + length (bytes " (end ")) end ends z.end end_after

abbrev pub AxisSays : List ℕ → ℕ → List ℤ → List ℤ → List ℤ → ℕ → Result AxisSizes SheetError → List ℤ → List ℤ → List ℤ → Type 0
AxisSays text from points start end next (Ok z) pointsAfter startAfter end_after =
    AxisTo text from points start end z next pointsAfter startAfter end_after
AxisSays text from points start end next (Err e) pointsAfter startAfter end_after = Stops (reading.read_axis within below4) text from e
