-- J26: "303 for a state list on any axis not m long": what is built says yes to the question about a state exactly when the list of each axis is m
-- long, so no sum of lengths stands for them. Proved by `states_one_by_one` of proofs/States.antt. Assumes nothing.
use Rattle.std.specs.Prelude.{◌≡◌, false, List, ℕ, ◌≤◌, eqb, ℤ, length}
use Rattle.law_lists.specs.Lists.{all}
use Rattle.rules.specs.Build.{valid_state, given}
use Rattle.rules.specs.SheetAnswers.{columns_of, column_major}

-- the theorem: the lists of one axis or more; m is 1, 2 or 3
unfoldable pub StatesOneByOne : Type 0
StatesOneByOne =
    (lists : List (List ℤ)) (m : ℕ) → 1 ≤ length lists → 1 ≤ m
    → valid_state (length lists) m (given (length lists) (columns_of lists) false) (column_major lists (columns_of lists))
    ≡ all (λ xs. eqb (length xs) m) lists
