-- What the functions of one inner node are lent, and what they leave. Assumes nothing.
use Rattle.std.specs.Prelude.{◌≡◌, ℕ, ◌+◌, ◌-◌, ◌*◌, ◌<◌, ◌≤◌, cond, List, length, take, drop, ltb, Float}
use Rattle.rules.specs.Tables.{A}
use Rattle.rules.specs.Solve.{times, minus}
use Rattle.rules.specs.Build.{bounded_side, solved_side}
use Rattle.build_products.specs.Columns.{HoldsA, HoldsC, HoldsR}

-- what the right side at inner node i of n is made of, and room for it
pub record SideLent (m n : ℕ) (r a c boundary : List Float) (i : ℕ) (side : List Float) : Type 0 where
  pub some : 1 ≤ m
  pub holds_r : HoldsR m r
  pub holds_a : HoldsA m a
  pub holds_c : HoldsC m c
  pub ends : m + m ≤ length boundary
  pub inner : i < n
  pub room : length side ≡ m

-- the i-th m numbers of a list
abbrev pub part : ℕ → List Float → ℕ → List Float
part m xs i = take m (drop (i * m) xs)

-- R8: what is solved at an inner node
abbrev pub full_side : ℕ → ℕ → List Float → List Float → List Float → ℕ → List Float
full_side m n w start end i =
    let side = bounded_side m n w start end i in
    cond (ltb 0 i) (minus m side (times m (A m) (solved_side m n w start end (i - 1)))) side
