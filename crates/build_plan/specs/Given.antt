-- What a build is given, and the boundary numbers that are made of it. Assumes nothing.
use Rattle.std.specs.Prelude.{ℕ, ◌*◌, ◌≤◌, List, length, take, drop, Option, Some, None, Float}
use Rattle.rules.specs.declared.BoundaryState.{BoundaryState}
use Rattle.build_plan.specs.declared.states.EndState.{EndState}

-- how many numbers a state takes for so many columns
abbrev pub numbers_taken : ℕ → ℕ → Option BoundaryState → ℕ
numbers_taken axes columns None = 0
numbers_taken axes columns (Some state) = columns * axes

-- a state that is given has numbers for so many columns
abbrev pub HasNumbers : ℕ → ℕ → EndState → Type 0
HasNumbers axes columns end = numbers_taken axes columns end.state ≤ length end.numbers.now

-- of the boundary numbers, which are the first node's m and then the last's
abbrev pub first_of : ℕ → List Float → List Float
first_of m boundary = take m boundary

abbrev pub last_of : ℕ → List Float → List Float
last_of m boundary = take m (drop m boundary)
