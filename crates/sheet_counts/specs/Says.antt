-- How large the count of an answer is. Assumes nothing.
use Rattle.std.specs.Prelude.{ℕ, ◌≤◌, Result, IfOk}
use Rattle.rules.specs.declared.SheetError.{SheetError}

-- J6: "1 to 64 as the count"
abbrev pub CountedSmall : Result ℕ SheetError → Type 0
CountedSmall result = IfOk result (λ n. (1 ≤ n) × (n ≤ 64))
