-- What a rounding cannot tell apart. Assumes nothing.
use Rattle.std.specs.Prelude.{◌≡◌, ◌⊎◌, ℕ, suc, ◌-◌, ◌*◌, ◌%◌, ◌<◌}

-- y is x / v with a sticky last digit: nothing was cut off, or y is odd and stands for all that lies between its even neighbours.
abbrev pub Sticky : ℕ → ℕ → ℕ → Type 0
Sticky v x y = (x ≡ y * v) ⊎ ((y % 2 ≡ 1) × ((y - 1) * v < x) × (x < suc y * v))
