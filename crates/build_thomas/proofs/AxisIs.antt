-- The numbers of the nodes of a solved list are the definition's, so the segments that are made of them are the axis's. A point of an axis is a
-- waypoint. Assumes nothing.
use mathlib.Core.Path.{◌≡◌, refl, sym, ap, ap₂, ◌∙◌}
use mathlib.Core.List.{List, ◌++◌}
use mathlib.Core.Logic.{◌⊎◌, inl, inr}
use Prim.Native.Nat.{ℕ, zero, suc, ◌+◌, ◌-◌, ◌*◌, ◌<◌, ◌≤◌}
use borrow.Author.Tests.{lt-ltb, le-ltb}
use lib.ListN.{length, take, drop}
use lib.Seq.{drop_at}
use lib.Ieee.{Float}
use Rattle.rules.specs.Floats.{◌!◌}
use Rattle.law_lists.specs.Lists.{joined}
use Rattle.rules.specs.Build.{dy, segment_coefficients, inner_numbers, node_numbers, axis_coefficients}
use Rattle.law_lists.proofs.Lists.{length-joined}
use Rattle.law_lists.proofs.Filling.{lt_or_le, joined_ext, parts_at}
use Rattle.rules.proofs.Build.{length-inner}
use Rattle.build_plan.specs.Given.{first_of, last_of}
use Rattle.build_segments.specs.NodeNumbers.{node_part}

-- rest is what the solved list has past the inner nodes' numbers
module _ (m n : ℕ) (boundary solved w rest : List Float) where
  abbrev first : List Float
  first = first_of m boundary

  abbrev last : List Float
  last = last_of m boundary

  abbrev inner : ℕ → List Float
  inner j = inner_numbers m n w first last j (n - suc j)

  pub nodes_are : solved ≡ joined n inner ++ rest → (i : ℕ) → node_part m n boundary solved i ≡ node_numbers m n w first last i
  unfolding node_part node_numbers
  nodes_are e zero = refl
  nodes_are e (suc i) = go (lt_or_le i n)
    where
      sized : (j : ℕ) → j < n → length (inner j) ≡ m
      sized j l = length-inner m n w first last j (n - suc j)

      whole : solved ≡ joined n inner ++ drop (n * m) solved
      whole =
          e
          ∙ ap (λ (xs : List Float). joined n inner ++ xs)
          (sym (ap (drop (n * m)) e ∙ drop_at (joined n inner) rest (n * m) (length-joined n m inner sized)))

      go : (i < n) ⊎ (n ≤ i) → node_part m n boundary solved (suc i) ≡ node_numbers m n w first last (suc i)
      go (inl l) = rw (lt-ltb i n l) (ap (λ (xs : List Float). take m (drop (i * m) xs)) whole ∙ parts_at m inner n solved i sized l)
      go (inr l) = rw (le-ltb i n l)

  -- segment i's coefficients, with its nodes' numbers as they are kept; of an `Axis` they are its `segment_of`
  abbrev segment : ℕ → List Float
  segment i =
      let node : ℕ → List Float = node_part m n boundary solved in
      segment_coefficients m (w ! i) (dy w i) (node i) (node (suc i))

  pub axis_is : solved ≡ joined n inner ++ rest → joined (n + 1) segment ≡ axis_coefficients m n w first last
  unfolding axis_coefficients
  axis_is e = joined_ext (n + 1) _ _ (λ i h. ap₂ (segment_coefficients m (w ! i) (dy w i)) (nodes_are e i) (nodes_are e (suc i)))
