-- What a factored matrix that is lent holds, and the single step of `forward` of crates/rules/specs/Solve.antt, for the function that
-- makes it. A reader of the public contracts does not need the step. Assumes nothing.
use Rattle.std.specs.Prelude.{ℕ, cond, List, leb, Float}
use Rattle.rules.specs.Floats.{◌⊖◌, ◌⊗◌, ◌!◌}
use Rattle.law_lists.specs.Lists.{listed}
use Rattle.rules.specs.Solve.{entry, Factored}
use Rattle.build_forward.specs.declared.Factored.{Factored as Lent}

-- the factored matrix of the definitions that is lent
abbrev pub factors_of : Lent → Factored
factors_of f = record { entries = f.entries.now; rows = f.rows.now }

-- the step of `forward` at row k: what it has at row i, and the whole
abbrev pub forward_cell : ℕ → List Float → List Float → ℕ → ℕ → Float
forward_cell m entries y k i = cond (leb i k) (y ! i) (y ! i ⊖ entry m entries i k ⊗ y ! k)

unfoldable pub forward_step : ℕ → List Float → List Float → ℕ → List Float
forward_step m entries y k = listed m (forward_cell m entries y k)
