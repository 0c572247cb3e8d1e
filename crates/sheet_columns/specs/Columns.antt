-- Lists in a buffer, as far apart as the stride, and their columns. Assumes nothing.
use Rattle.std.specs.Prelude.{ℕ, List, ℤ, Float}
use Rattle.std.specs.Float.{binary64}
use Rattle.std.specs.Float.Ieee.{of_int}
use Rattle.law_lists.specs.Lists.{joined, listed}
use Rattle.sheet_record.specs.Reached.{number_in}

-- number k of list a, as a float
abbrev pub number_at : ℕ → List ℤ → ℕ → ℕ → Float
number_at stride buffer k a = of_int binary64 (number_in stride buffer k a)

-- the first numbers of each list, column-major
unfoldable pub columns_at : ℕ → ℕ → ℕ → List ℤ → List Float
columns_at stride rows columns buffer = joined columns (λ k. listed rows (number_at stride buffer k))
