-- A buffer of 16,384 cells suffices for every sheet. Assumes nothing.
use Rattle.std.specs.Prelude.{◌≡◌, List, ℕ, ◌≤◌}
use Rattle.rules.specs.SheetAnswers.{sheet_answer, sheet_served, most_cells}

-- J27: no sheet is refused for a buffer that is as long. Proved by `long_enough` of proofs/Enough.antt.
unfoldable pub LongEnough : Type 0
LongEnough = (t : List ℕ) (cells : ℕ) → most_cells ≤ cells → sheet_answer t cells ≡ sheet_served t
