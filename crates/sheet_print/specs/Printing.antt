-- What is printed of an answer and of the buffer that was built into. Assumes nothing.
use Prim.{Unit}
use Rattle.std.specs.Prelude.{List, ℕ, ◌+◌, ◌*◌, ◌≤◌, take, Float, Result, Ok, Err}
use Rattle.rules.specs.declared.PathRecord.{PathRecord}
use Rattle.rules.specs.declared.SheetError.{SheetError}
use Rattle.rules.specs.Questions.{number_of}
use Rattle.rules.specs.SheetAnswers.{table_output, refused_output}

-- how many coefficients a path has
abbrev pub path_cells : PathRecord → ℕ
path_cells p = p.axes * p.segments * (p.order + 1)

-- a path whose output fits, and whose table is in a buffer of so many cells
pub record Printable (p : PathRecord) (cells : ℕ) : Type 0 where
  pub few_orders : p.order ≤ 7
  pub few_segments : p.segments ≤ 256
  pub few_axes : p.axes ≤ 8
  pub inside : path_cells p ≤ cells

-- the same of the path of an answer, where it has one
abbrev pub IsPrintable : Result PathRecord SheetError → ℕ → Type 0
IsPrintable (Ok path) cells = Printable path cells
IsPrintable (Err e) cells = Unit {0}

-- the table is in the first cells of the buffer
abbrev pub output_of : Result PathRecord SheetError → List Float → List ℕ
output_of (Ok path) buffer = table_output path (take (path_cells path) buffer)
output_of (Err e) buffer = refused_output (number_of e.cause) e.at
