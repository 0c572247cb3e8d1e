-- Reading on at each place is reading from the start. Assumes nothing.
use Rattle.std.proofs.Common.{◌≡◌, ◌+◌, ◌≤◌, List, ℕ, drop}
use Rattle.rules.specs.SheetReading as reading
use Rattle.sheet_decimals.specs.Says.{up_to}
use Rattle.sheet_decimals.proofs.digits.Given as goal

abbrev pub invariant-loop-b : goal.invariant-loop-b
invariant-loop-b l =
    let from = l.fn.cursor in
    record {
      same : l.cursor.text.now ≡ from.text.now;
      here : l.cursor.at ≡ from.at + l.b-index;
      within : (l.fn.n ≤ l.value) × (l.value ≤ l.limit);
      on : (over : List ℕ → reading.Read ℕ)
          → reading.digits (up_to l.limit) over l.value (drop l.cursor.at from.text.now) ≡ reading.digits (up_to l.limit) over l.fn.n (drop from.at from.text.now);
    }
