-- The single step of `backward` of crates/rules/specs/Solve.antt, for the function that makes it. A reader of the public
-- contracts does not need it. Assumes nothing.
use Rattle.std.specs.Prelude.{ℕ, cond, List, ltb, eqb, Float}
use Rattle.rules.specs.Floats.{◌⊖◌, ◌⊗◌, ◌⊘◌, ◌!◌}
use Rattle.law_lists.specs.Lists.{listed}
use Rattle.rules.specs.Solve.{entry}

-- the step of `backward` at row k: the number that is found, what the step has at row i, and the whole
abbrev pub found : ℕ → List Float → List Float → ℕ → Float
found m entries y k = y ! k ⊘ entry m entries k k

abbrev pub backward_cell : ℕ → List Float → List Float → ℕ → ℕ → Float
backward_cell m entries y k i =
    cond (ltb i k) (y ! i ⊖ entry m entries i k ⊗ found m entries y k) (cond (eqb i k) (found m entries y k) (y ! i))

unfoldable pub backward_step : ℕ → List Float → List Float → ℕ → List Float
backward_step m entries y k = listed m (backward_cell m entries y k)
