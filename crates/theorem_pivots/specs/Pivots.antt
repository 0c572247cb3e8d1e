-- Wish 2 of document 02: no pivot of an inner node is zero, at any of the three orders and at any number of points, so that question 10 of document 01 is
-- struck. Proved in proofs/Pivots.antt and proofs/Struck.antt. Assumes nothing.
use Rattle.std.specs.Prelude.{◌≡◌, Bool, true, false, not, [], ◌∷◌, ◌++◌, ℕ, ◌-◌, ◌≤◌, ◌<◌, Float}
use Rattle.std.specs.Float.Ieee.{le, eq}
use Rattle.law_lists.specs.Lists.{every}
use Rattle.rules.specs.Floats.{◌⊘◌, +0, magnitude, finite, of_count}
use Rattle.rules.specs.Questions.{ask, first_no}
use Rattle.rules.specs.Tables.{m_of}
use Rattle.rules.specs.Solve.{entry, node_factors}
use Rattle.rules.specs.Build.{BuildInput, build_questions, build_number}

-- the pivot of column k at inner node i: it stands on the diagonal of the node's factored matrix
abbrev pub pivot : ℕ → ℕ → ℕ → Float
pivot m i k = entry m (node_factors m i).entries k k

-- 3.1: document 03 has "No pivot's magnitude is below 3.1"
abbrev pub least : Float
least = of_count 31 ⊘ of_count 10

-- Z1, Z2: "for all three orders and up to 255 inner points", and beyond: of every inner node
unfoldable pub PivotsAreNeverZero : Type 0
PivotsAreNeverZero =
    (m i k : ℕ) → 1 ≤ m → m ≤ 3 → k < m
    → (eq (pivot m i k) +0 ≡ false) × (finite (pivot m i k) ≡ true) × (le least (magnitude (pivot m i k)) ≡ true)

-- question 10 as document 01 had it, "Is every pivot other than zero?": of n inner nodes
unfoldable pub every_pivot : ℕ → ℕ → Bool
every_pivot m n = every n (λ i. every m (λ k. not (eq (pivot m i k) +0)))

-- Z4: asked behind the other questions of a build, it would change no answer, whatever number its no gave
unfoldable pub AskingChangesNothing : Type 0
AskingChangesNothing =
    (b : BuildInput) (cells number : ℕ)
    → first_no (build_questions b cells ++ (ask (every_pivot (m_of b.config.order) (b.points - 2)) number ∷ [])) ≡ build_number b cells
