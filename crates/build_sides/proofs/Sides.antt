-- A node's right side as the code makes it up is the definition's, and so is the solved one. Assumes nothing.
use mathlib.Core.Path.{◌≡◌, refl, sym, ap}
use mathlib.Core.Bool.{Bool, cond}
use mathlib.Core.List.{List}
use Prim.Native.Nat.{ℕ, zero, suc, ◌+◌, ◌-◌, ◌<◌}
use native.Mathlib.Numerals.{add-one}
use native.Mathlib.Omega.{arith}
use borrow.Author.Tests.{lt-ltb}
use lib.Dec.{eqb}
use lib.ListN.{length}
use Rattle.law_lists.proofs.Lent.{part_length}
use Rattle.build_plan.specs.declared.BoundaryNumbers.{BoundaryNumbers}
use Rattle.build_plan.specs.Given.{first_of, last_of}
use lib.Ieee.{Float}
use Rattle.rules.specs.Floats.{◌⊗◌, ◌⊕◌}
use Rattle.law_lists.specs.Lists.{listed}
use Rattle.rules.specs.Tables.{A}
use Rattle.rules.specs.Solve.{entry, times, minus, solve, node_factors}
use Rattle.rules.specs.Build.{dy, right_side, bounded_side, solved_side}
use Rattle.build_products.specs.Columns.{transposed, HoldsA, HoldsC, HoldsR}
use Rattle.build_products.proofs.Transposed.{columns_are}
use Rattle.build_sides.specs.Node.{full_side}

module _ {m : ℕ} {r a c : List Float} (holds_r : HoldsR m r) (holds_a : HoldsA m a) (holds_c : HoldsC m c) where
  -- the right side from the dy before and the dy after
  abbrev pub right : Float → Float → List Float
  right before after = listed m (λ k. entry 2 r k 0 ⊗ before ⊕ entry 2 r k 1 ⊗ after)

  -- less a matrix, kept by columns, times u
  abbrev pub less : List Float → List Float → List Float → List Float
  less columns u v = minus m v (times m (transposed m columns) u)

  -- at_first and at_last are the code's tests
  pub bounded_is : (n : ℕ) (w start end : List Float) (i : ℕ) (before after : Float) (at_first at_last : Bool)
      → eqb i 0 ≡ at_first → eqb (i + 1) n ≡ at_last → dy w i ≡ before → dy w (suc i) ≡ after
      → (let first = cond at_first (less a start (right before after)) (right before after) in
      cond at_last (less c end first) first ≡ bounded_side m n w start end i)
  unfolding bounded_side right_side
  bounded_is n w start end i before after at_first at_last x y p q =
      rw (← x, ← y, columns_are holds_a, columns_are holds_c, add-one, ← p, ← q, holds_r.is)

  -- what is subtracted past the first node
  pub past_first_is : (n : ℕ) (w start end previous : List Float) (i : ℕ) → 0 < i → previous ≡ solved_side m n w start end (i - 1)
      → less a previous (bounded_side m n w start end i) ≡ full_side m n w start end i
  past_first_is n w start end previous i h e = rw (columns_are holds_a, lt-ltb 0 i h, e)

-- how long the boundary numbers are
pub first_long : (ends : BoundaryNumbers) → length (first_of ends.tables.now.m ends.numbers.now) ≡ ends.tables.now.m
first_long ends = part_length 0 ends.tables.now.m ends.numbers.now (omega arith)

pub last_long : (ends : BoundaryNumbers) → length (last_of ends.tables.now.m ends.numbers.now) ≡ ends.tables.now.m
last_long ends = part_length ends.tables.now.m ends.tables.now.m ends.numbers.now (omega arith)

-- a node's solved right side is solved from all of its right side
pub solved_is : (m n : ℕ) (w start end : List Float) (i : ℕ) → solved_side m n w start end i ≡ solve m (node_factors m i) (full_side m n w start end i)
unfolding solved_side
solved_is m n w start end zero = refl
solved_is m n w start end (suc i) =
    let before : suc i - 1 ≡ i = omega arith in
    let side : List Float = bounded_side m n w start end (suc i) in
    let less : List Float = minus m side (times m (A m) (solved_side m n w start end i)) in
    rw before (ap (λ (t : Bool). solve m (node_factors m (suc i)) (cond t less side)) (sym (lt-ltb 0 (suc i) (omega arith))))
