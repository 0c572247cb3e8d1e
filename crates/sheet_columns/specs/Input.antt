-- What is built of what was read. Assumes nothing.
use Rattle.std.specs.Prelude.{◌≡◌, List, ◌*◌, ℤ, take, Float}
use Rattle.rules.specs.Build.{BuildInput, input_of}
use Rattle.sheet_record.specs.declared.SheetNumbers.{SheetNumbers}
use Rattle.sheet_record.specs.declared.SheetRead.{SheetRead}
use Rattle.sheet_config.specs.Config.{config_read}
use Rattle.sheet_columns.specs.Columns.{columns_at}

-- the numbers of the lists, column-major
abbrev pub waypoints_read : SheetRead → List Float
waypoints_read read = let n = read.numbers in columns_at 258 n.axes n.points read.points.now

abbrev pub first_column : SheetRead → List Float
first_column read = let n = read.numbers in columns_at 4 n.axes n.start read.start.now

abbrev pub last_column : SheetRead → List Float
last_column read = let n = read.numbers in columns_at 4 n.axes n.end read.end.now

abbrev pub input_read : SheetRead → BuildInput
input_read read =
    let n = read.numbers in input_of (config_read n) n.points n.axes (waypoints_read read) (first_column read) (last_column read)

-- the same of numbers and of lists in buffers, wherever they stand
abbrev pub input_held : SheetNumbers → List ℤ → List ℤ → List ℤ → BuildInput
input_held n points start end =
    input_of (config_read n) n.points n.axes (columns_at 258 n.axes n.points points) (columns_at 4 n.axes n.start start) (columns_at 4 n.axes n.end end)

-- these lists begin with those numbers
pub record Prepared (n : SheetNumbers) (points start end : List ℤ) (waypoints first last : List Float) : Type 0 where
  pub waypoints_are : take (n.points * n.axes) waypoints ≡ columns_at 258 n.axes n.points points
  pub first_is : take (n.start * n.axes) first ≡ columns_at 4 n.axes n.start start
  pub last_is : take (n.end * n.axes) last ≡ columns_at 4 n.axes n.end end
