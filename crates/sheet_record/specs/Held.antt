-- What was read of a job sheet: its numbers, and its lists in buffers, each list of a kind as far from the next. Assumes nothing.
use Rattle.std.specs.Prelude.{◌≡◌, List, [], ℕ, ◌+◌, ◌*◌, ◌^◌, ◌≤◌, ◌<◌, ℤ, pos, nat_abs, length, get_or}
use Rattle.rules.specs.Sheets.{Axis, range, heading, Sheet, sheet}
use Rattle.rules.specs.SheetAnswers.{axes_of, points_of, start_of, end_of, of_each, columns_of, cell}
use Rattle.sheet_record.specs.declared.SheetNumbers.{SheetNumbers}

-- J22: a number within the limit
abbrev pub Near : ℤ → Type 0
Near z = nat_abs z ≤ 2 ^ 40

-- the buffer has room for the lists of 8 axes, and holds list a from place a * stride on
pub record Held (stride : ℕ) (lists : List (List ℤ)) (buffer : List ℤ) : Type 0 where
  pub room : length buffer ≡ 8 * stride
  pub holds : (a k : ℕ) → a < length lists → k < length (get_or lists a []) → get_or buffer (a * stride + k) (pos 0) ≡ cell lists a k
  pub near : (a k : ℕ) → a < length lists → k < length (get_or lists a []) → Near (cell lists a k)

-- the parts of a sheet
abbrev pub order_in : Sheet → ℤ
order_in (sheet (heading order (range from to)) axes) = order

abbrev pub from_in : Sheet → ℤ
from_in (sheet (heading order (range from to)) axes) = from

abbrev pub to_in : Sheet → ℤ
to_in (sheet (heading order (range from to)) axes) = to

abbrev pub axes_in : Sheet → List Axis
axes_in (sheet (heading order (range from to)) axes) = axes_of axes

-- what was read of a sheet that is within the limits and whose axes have as many points as the first
pub record ReadOf (s : Sheet) (n : SheetNumbers) (points start end : List ℤ) : Type 0 where
  pub order_is : n.order ≡ order_in s
  pub from_is : n.from ≡ from_in s
  pub to_is : n.to ≡ to_in s
  pub order_near : Near n.order
  pub from_near : Near n.from
  pub to_near : Near n.to
  pub axes_is : n.axes ≡ length (axes_in s)
  pub some_axes : 1 ≤ n.axes
  pub few_axes : n.axes ≤ 8
  pub some_points : 1 ≤ n.points
  pub few_points : n.points ≤ 257
  pub points_are : (a : ℕ) → a < length (axes_in s) → length (get_or (of_each points_of (axes_in s)) a []) ≡ n.points
  pub start_is : n.start ≡ columns_of (of_each start_of (axes_in s))
  pub end_is : n.end ≡ columns_of (of_each end_of (axes_in s))
  pub few_start : n.start ≤ 3
  pub few_end : n.end ≤ 3
  pub points_held : Held 258 (of_each points_of (axes_in s)) points
  pub start_held : Held 4 (of_each start_of (axes_in s)) start
  pub end_held : Held 4 (of_each end_of (axes_in s)) end
