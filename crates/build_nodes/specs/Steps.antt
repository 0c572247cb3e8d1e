-- What the functions of a single node are held to. A reader of the public contract needs none of these. Assumes nothing.
use Rattle.std.specs.Prelude.{◌≡◌, ℕ, ◌*◌, ◌≤◌, List, ◌++◌, length, drop, Float}
use Rattle.rules.specs.Floats.{◌⊖◌, ◌⊗◌, sum_of}
use Rattle.rules.specs.Tables.{A, B}
use Rattle.rules.specs.Solve.{entry}
use Rattle.build_nodes.specs.NodeLists.{node_solved}

-- an entry of B − A·(previous solved C)
abbrev pub next_entry : ℕ → List Float → ℕ → ℕ → Float
next_entry m previous r c = entry m (B m) r c ⊖ sum_of m (λ k. entry m (A m) r k ⊗ entry m previous k c)

-- the list starts with solved C of the first i inner nodes
abbrev pub SolvedTo : ℕ → ℕ → List Float → Type 0
SolvedTo m i solved = (i * (m * m) ≤ length solved) × (solved ≡ node_solved m i ++ drop (i * (m * m)) solved)
