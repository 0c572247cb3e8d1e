-- The numbers of a node by its place: of one between, and of the last; and how long they are. Assumes nothing.
use mathlib.Core.Path.{◌≡◌, ap}
use mathlib.Core.List.{List}
use mathlib.Core.Logic.{◌⊎◌, inl, inr}
use Prim.Native.Nat.{ℕ, zero, suc, ◌+◌, ◌-◌, ◌*◌, ◌<◌, ◌≤◌}
use native.Mathlib.Nat.{le_of_suc-le-suc, not-suc-le-zero}
use native.Mathlib.Omega.{arith}
use borrow.Author.Tests.{lt-ltb, le-ltb}
use lib.ListN.{length, take, drop, length-drop}
use lib.Seq.{length-take-le}
use lib.Ieee.{Float}
use Rattle.law_lists.proofs.Lists.{part_inside}
use Rattle.law_lists.proofs.Filling.{lt_or_le}
use Rattle.build_segments.specs.NodeNumbers.{node_part}

module _ (m n : ℕ) (boundary solved : List Float) where
  pub last_part : (i : ℕ) → n < i → node_part m n boundary solved i ≡ take m (drop m boundary)
  unfolding node_part
  last_part zero h = absurd (not-suc-le-zero h)
  last_part (suc i) h = rw (le-ltb i n (le_of_suc-le-suc h))

  pub inner_part : (i : ℕ) → 0 < i → i ≤ n → node_part m n boundary solved i ≡ take m (drop ((i - 1) * m) solved)
  unfolding node_part
  inner_part zero p h = absurd (not-suc-le-zero p)
  inner_part (suc i) p h = rw (lt-ltb i n h) (ap (λ (k : ℕ). take m (drop (k * m) solved)) (omega arith))

  pub length_part : m + m ≤ length boundary → n * m ≤ length solved → (i : ℕ) → length (node_part m n boundary solved i) ≡ m
  unfolding node_part
  length_part both all zero = length-take-le m boundary (omega arith)
  length_part both all (suc i) = go (lt_or_le i n)
    where
      go : (i < n) ⊎ (n ≤ i) → length (node_part m n boundary solved (suc i)) ≡ m
      go (inl h) = rw (lt-ltb i n h) (length-take-le m (drop (i * m) solved) (simp length-drop (omega (arith, part_inside m h))))
      go (inr h) = rw (le-ltb i n h) (length-take-le m (drop m boundary) (simp length-drop (omega arith)))
