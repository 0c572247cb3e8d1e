-- What the functions below `check_master` are held to, which a reader of its contract does not need: the equations in the order in which one pass over the
-- table meets them. proofs/Pass.antt: they are those of crates/rules/specs/Master.antt. Assumes nothing.
use Rattle.std.specs.Prelude.{Bool, not, cond, ◌&&◌, List, ℕ, ◌-◌, ℤ, length}
use Rattle.law_lists.specs.Lists.{all, every}
use Rattle.rules.specs.Master.{MasterSays, within, meets_start}
use Rattle.master_equations.specs.Segment.{segment_meets}

-- the start state is met, and so are the equations of the first n segments
unfoldable pub meets_up_to : ℕ → List ℤ → List ℤ → List ℤ → List ℤ → ℕ → Bool
meets_up_to m w start end table n =
    meets_start m (length w - 1) table start && every n (segment_meets m w end table)

-- the pass's answer
unfoldable pub pass_says : ℕ → List ℤ → List ℤ → List ℤ → List ℤ → MasterSays
pass_says m w start end table =
    let fit = all within table in
    record { refused = not fit; number = cond fit 0 4; good = fit && meets_up_to m w start end table (length w - 1) }
