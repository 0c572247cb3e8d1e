-- A single step of `factor` of crates/rules/specs/Solve.antt by itself, for the functions that make it. A reader of `factor`'s
-- contract does not need it. Assumes nothing.
use Rattle.std.specs.Prelude.{ℕ, ◌*◌, ◌/◌, ◌%◌, cond, ◌||◌, List, ◌++◌, drop, leb, ltb, eqb, Float}
use Rattle.rules.specs.Floats.{◌⊖◌, ◌⊗◌}
use Rattle.law_lists.specs.Lists.{listed}
use Rattle.rules.specs.Solve.{entry}

-- an entry after the elimination below row k, with the reciprocal of the pivot
abbrev pub eliminated_entry : ℕ → ℕ → Float → List Float → ℕ → ℕ → Float
eliminated_entry m k reciprocal a i j =
    let multiplier = entry m a i k ⊗ reciprocal in
    cond (leb i k || ltb j k) (entry m a i j) (cond (eqb j k) multiplier (entry m a i j ⊖ multiplier ⊗ entry m a k j))

-- that elimination so far: the first i rows are done, and the others are as they were
abbrev pub eliminated_to : ℕ → ℕ → Float → List Float → ℕ → List Float
eliminated_to m k reciprocal a i = listed (i * m) (λ q. eliminated_entry m k reciprocal a (q / m) (q % m)) ++ drop (i * m) a
