-- The levels of a query: the number of each, and what asking a number for its level answers. Assumes nothing.
use Rattle.std.specs.Prelude.{◌≡◌, ℕ, Bool, true, false, ◌&&◌, Result, Ok, Err}
use Rattle.rules.specs.declared.PathError.{PathError}
use Rattle.rules.specs.declared.PathError.TheVariants.{UnsupportedDerivativeOrder}
use Rattle.rules.specs.Query as Query
use Rattle.rules.specs.Query.{valid_level, valid_length}
use Rattle.query_levels.specs.declared.Level.{Level}
use Rattle.query_levels.specs.declared.Level.TheVariants.{Positions, UpToSecond, UpToThird}
use Rattle.query_levels.specs.declared.Lengths.{Lengths}

-- Q8: "level 0, 2 or 3"
abbrev pub level_number : Level → ℕ
level_number Positions = 0
level_number UpToSecond = 2
level_number UpToThird = 3

-- Q8: a number that is a level's gives that level, and any other is refused with 308
abbrev pub LevelAnswered : ℕ → Result Level PathError → Type 0
LevelAnswered number (Ok level) = (valid_level number ≡ true) × (level_number level ≡ number)
LevelAnswered number (Err error) = (valid_level number ≡ false) × (error ≡ UnsupportedDerivativeOrder)

-- the lengths as the questions take them
abbrev pub lengths : Lengths → Query.Lengths
lengths n = record { q = n.q; dq = n.dq; ddq = n.ddq; dddq = n.dddq }

-- Q9: "each buffer that the level writes as long as the axes"
abbrev pub valid_lengths : ℕ → ℕ → Query.Lengths → Bool
valid_lengths axes level n =
    let valid : ℕ → ℕ → Bool = valid_length axes level in
    valid 0 n.q && valid 1 n.dq && valid 2 n.ddq && valid 3 n.dddq
