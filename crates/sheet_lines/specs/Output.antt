-- The parts of the output that a routine writes each. Assumes nothing.
use Rattle.std.specs.Prelude.{List, ◌++◌, ℕ, length, Float}
use Rattle.law_lists.specs.Lists.{joined}
use Rattle.rules.specs.declared.PathRecord.{PathRecord}
use Rattle.rules.specs.Floats.{◌!◌}
use Rattle.rules.specs.Sheets.{bytes, natural}
use Rattle.rules.specs.SheetAnswers.{seg_line, segment}
use Rattle.sheet_bits.specs.Coefficients.{coefficient}

-- J10: the first line
abbrev pub table_line : PathRecord → List ℕ
table_line p = bytes "(table " ++ (natural p.order ++ (bytes " " ++ (natural p.segments ++ (bytes " " ++ (natural p.axes ++ bytes ")\n")))))

-- J11: a segment's coefficients
abbrev pub coefficients_of : List Float → List ℕ
coefficients_of cs = joined (length cs) (λ k. coefficient (cs ! k))

-- J11: the lines of an axis
abbrev pub axis_lines : PathRecord → List Float → ℕ → List ℕ
axis_lines p t a = joined p.segments (λ i. seg_line a i (segment p t a i))
