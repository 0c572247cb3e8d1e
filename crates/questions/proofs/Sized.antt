-- What a yes to the first questions says of an order and a number of points. Assumes nothing.
use mathlib.Core.Path.{◌≡◌}
use Prim.Native.Nat.{ℕ, ◌≤◌}
use lib.Dec.{T, leb→le}
use Rattle.rules.specs.Build.{valid_order}
use Rattle.rules.specs.Questions.{first_no}
use Rattle.rules.specs.Master.{size_questions}
use Rattle.rules.proofs.Questions.{answer_at, said_yes}

pub record Sized (order points : ℕ) : Type 0 where
  pub valid : T (valid_order order)
  pub least : 2 ≤ points
  pub most : points ≤ 257

pub sized : {order points : ℕ} → first_no (size_questions order points) ≡ 0 → Sized order points
unfolding size_questions
sized {order} {points} e =
    let yes : (k : ℕ) → T (answer_at (size_questions order points) k) = said_yes (size_questions order points) tt e in
    record { valid = yes 0; least = leb→le 2 points (yes 1); most = leb→le points 257 (yes 2) }
