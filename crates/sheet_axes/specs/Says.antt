-- What the answer for all axes of a job sheet says of the judge's reading. Assumes nothing.
use Rattle.std.specs.Prelude.{◌≡◌, List, [], ◌∷◌, ℕ, ◌≤◌, ◌<◌, ℤ, length, get_or, Option, None, Some, Result, Ok, Err}
use Rattle.rules.specs.declared.SheetError.{SheetError}
use Rattle.rules.specs.Questions.{number_of}
use Rattle.rules.specs.Sheets.{Axis, Axes, within, below4}
use Rattle.rules.specs.SheetReading as reading
use Rattle.rules.specs.SheetFaults.{Refusal, refusal, first_count, axes_sizes}
use Rattle.rules.specs.SheetAnswers.{axes_of, points_of, start_of, end_of, of_each, columns_of}
use Rattle.sheet_record.specs.Held.{Held}
use Rattle.sheet_axis.specs.Says.{Reads, Stops}
use Rattle.sheet_sizes.specs.declared.AxesSizes.{AxesSizes}
use Rattle.sheet_axes.specs.declared.AxesRead.{AxesRead}

-- ---- the axes

-- the first of some refusals
abbrev pub first_of : List Refusal → Option Refusal
first_of [] = None
first_of (r ∷ rest) = Some r

-- a fault in the terms of the definitions
abbrev pub refusal_of : SheetError → Refusal
refusal_of e = refusal (number_of e.cause) e.at

abbrev pub said : Option SheetError → Option Refusal
said None = None
said (Some e) = Some (refusal_of e)

-- what is known of the axes where none is refused for a size: the buffers hold their lists
pub record Clean (axes : List Axis) (z : AxesSizes) (points start end : List ℤ) : Type 0 where
  pub some : 1 ≤ z.points
  pub few : z.points ≤ 257
  pub alike : (a : ℕ) → a < length axes → length (get_or (of_each points_of axes) a []) ≡ z.points
  pub start_is : z.start ≡ columns_of (of_each start_of axes)
  pub end_is : z.end ≡ columns_of (of_each end_of axes)
  pub few_start : z.start ≤ 3
  pub few_end : z.end ≤ 3
  pub points_held : Held 258 (of_each points_of axes) points
  pub start_held : Held 4 (of_each start_of axes) start
  pub end_held : Held 4 (of_each end_of axes) end

-- all axes are read to the end of the text
pub record AxesTo (text : List ℕ) (from n : ℕ) (z : AxesSizes) (points start end : List ℤ) : Type 0 where
  pub axes : Axes
  pub reads : Reads (reading.read_axes within below4 8) text from axes (length text)
  pub many : n ≡ length (axes_of axes)
  pub some : 1 ≤ n
  pub few : n ≤ 8
  pub first : said z.fault ≡ first_of (axes_sizes (first_count axes) from axes)
  pub clean : z.fault ≡ None → Clean (axes_of axes) z points start end

abbrev pub AxesSay : List ℕ → ℕ → Result AxesRead SheetError → List ℤ → List ℤ → List ℤ → Type 0
AxesSay text from (Ok r) points start end = AxesTo text from r.axes r.sizes points start end
AxesSay text from (Err e) points start end = Stops (reading.read_axes within below4 8) text from e
