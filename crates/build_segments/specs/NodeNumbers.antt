-- Where the code keeps the numbers of a node. Assumes nothing.
use Rattle.std.specs.Prelude.{ℕ, zero, suc, ◌*◌, cond, List, take, drop, ltb, Float}
use Rattle.build_plan.specs.Given.{first_of, last_of}

-- the numbers of a node: of the first, of the last, and between
unfoldable pub node_part : ℕ → ℕ → List Float → List Float → ℕ → List Float
node_part m n boundary solved zero = first_of m boundary
node_part m n boundary solved (suc i) = cond (ltb i n) (take m (drop (i * m) solved)) (last_of m boundary)
