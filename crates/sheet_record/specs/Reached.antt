-- What was read of a sheet, as far as the code that goes on with it needs it: small numbers, and lists that are there. Assumes nothing.
use Rattle.std.specs.Prelude.{ℕ, ◌+◌, ◌*◌, ◌≤◌, ◌<◌, List, ℤ, pos, length, get_or}
use Rattle.sheet_record.specs.declared.SheetNumbers.{SheetNumbers}
use Rattle.sheet_record.specs.Held.{Near}

-- how large the numbers are
pub record Small (n : SheetNumbers) : Type 0 where
  pub order_near : Near n.order
  pub from_near : Near n.from
  pub to_near : Near n.to
  pub few_axes : n.axes ≤ 8
  pub some_points : 1 ≤ n.points
  pub few_points : n.points ≤ 257
  pub few_start : n.start ≤ 3
  pub few_end : n.end ≤ 3

-- number k of list a, where the lists are as far apart as the stride
abbrev pub number_in : ℕ → List ℤ → ℕ → ℕ → ℤ
number_in stride buffer k a = get_or buffer (a * stride + k) (pos 0)

-- so many lists, with so many numbers each, are in the buffer, and the numbers within the limit
pub record InReach (stride rows columns : ℕ) (buffer : List ℤ) : Type 0 where
  pub apart : columns ≤ stride
  pub inside : rows * stride ≤ length buffer
  pub near : (a k : ℕ) → a < rows → k < columns → Near (number_in stride buffer k a)

-- the numbers are small, and the lists are there
pub record Reached (n : SheetNumbers) (points start end : List ℤ) : Type 0 where
  pub small : Small n
  pub points_reached : InReach 258 n.axes n.points points
  pub start_reached : InReach 4 n.axes n.start start
  pub end_reached : InReach 4 n.axes n.end end
