-- What is answered of one segment of a master. Assumes nothing.
use Rattle.std.specs.Prelude.{Bool, not, cond, ◌&&◌, List, ℕ, ◌+◌, ◌*◌, ℤ, take, drop}
use Rattle.law_lists.specs.Lists.{all}
use Rattle.rules.specs.Master.{MasterSays, within}
use Rattle.master_equations.specs.Segment.{segment_meets}

-- the coefficients of segment i
unfoldable pub segment_part : ℕ → List ℤ → ℕ → List ℤ
segment_part m table i = take (2 * m + 2) (drop (i * (2 * m + 2)) table)

-- the answer up to segment i, where `before` says whether all before it is good: a number of its own out of range refuses
unfoldable pub segment_says : Bool → ℕ → List ℤ → List ℤ → List ℤ → ℕ → MasterSays
segment_says before m w end table i =
    let fit = all within (segment_part m table i) in
    record { refused = not fit; number = cond fit 0 4; good = fit && (before && segment_meets m w end table i) }
