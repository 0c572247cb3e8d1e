-- What the answers for the heading of a job sheet say of the judge. Assumes nothing.
use Rattle.std.specs.Prelude.{◌≡◌, List, ℕ, ◌+◌, ℤ, length, Result, Ok, Err}
use Rattle.rules.specs.declared.SheetError.{SheetError}
use Rattle.rules.specs.Sheets.{heading, range, signed, spell_heading, within, below4}
use Rattle.rules.specs.SheetReading as reading
use Rattle.sheet_record.specs.Held.{Near}
use Rattle.sheet_axis.specs.Says.{Reads, Stops}
use Rattle.sheet_heading.specs.declared.HeadingNumbers.{HeadingNumbers}

-- a number is read by P, which has as many bytes before it as w and as many after it as `behind`
pub record NumberTo (P : ℕ → List ℕ → reading.Read ℤ) (w behind : List ℕ) (text : List ℕ) (from : ℕ) (z : ℤ) (next : ℕ) : Type 0 where
  pub reads : Reads P text from z next
  pub near : Near z
  pub ends : next ≡ from + length w + length (signed z) + length behind

abbrev pub NumberSays : (ℕ → List ℕ → reading.Read ℤ) → List ℕ → List ℕ → List ℕ → ℕ → ℕ → Result ℤ SheetError → Type 0
NumberSays P w behind text from next (Ok z) = NumberTo P w behind text from z next
NumberSays P w behind text from next (Err e) = Stops P text from e

abbrev pub led_number : List ℕ → ℕ → List ℕ → reading.Read ℤ
led_number w = reading.lead w (reading.read_number within below4)

pub record HeadingTo (text : List ℕ) (from : ℕ) (h : HeadingNumbers) (next : ℕ) : Type 0 where
  pub reads : Reads (reading.read_heading within below4) text from (heading h.order (range h.from h.to)) next
  pub next_is : next ≡ from + length (spell_heading (heading h.order (range h.from h.to)))
  pub order_near : Near h.order
  pub from_near : Near h.from
  pub to_near : Near h.to

abbrev pub HeadingSays : List ℕ → ℕ → ℕ → Result HeadingNumbers SheetError → Type 0
HeadingSays text from next (Ok h) = HeadingTo text from h next
HeadingSays text from next (Err e) = Stops (reading.read_heading within below4) text from e
