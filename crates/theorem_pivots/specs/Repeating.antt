-- The matrices of the inner nodes repeat: at m = 1 from node 14 on each is the one before, at m = 2 from node 23 on, and at m = 3 from node 34 on they go
-- round in a cycle of 57. Proved in proofs/Pivots.antt. Assumes nothing.
use Rattle.std.specs.Prelude.{◌≡◌, cond, ℕ, ◌+◌, ◌-◌, ◌%◌, ◌≤◌, min, ltb, eqb}
use Rattle.rules.specs.Solve.{node_factors}

-- the inner node from which on they repeat
unfoldable pub lead : ℕ → ℕ
lead m = cond (eqb m 1) 14 (cond (eqb m 2) 23 34)

-- after how many nodes
unfoldable pub period : ℕ → ℕ
period m = cond (eqb m 1) 1 (cond (eqb m 2) 1 57)

-- Z3: a node, among the first lead + period, that has the matrix of inner node i
unfoldable pub settled : ℕ → ℕ → ℕ
settled m i = cond (ltb i (lead m)) i (lead m + (i - lead m) % period m)

-- Z3: how many nodes have all the matrices of n inner nodes: the first so many
unfoldable pub distinct : ℕ → ℕ → ℕ
distinct m n = min n (lead m + period m)

-- Z3: the theorem; with the factored matrix all repeats that is made of it, solved C and the next matrix
unfoldable pub NodesRepeat : Type 0
NodesRepeat = (m i : ℕ) → 1 ≤ m → m ≤ 3 → node_factors m i ≡ node_factors m (settled m i)
