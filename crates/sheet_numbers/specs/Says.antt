-- What the answers say in the terms of the judge of job sheets, and how large their numbers are. Assumes nothing.
use Prim.{Unit}
use Rattle.std.specs.Prelude.{◌≡◌, List, ℕ, ◌^◌, ◌≤◌, ℤ, pos, nat_abs, drop, Result, Ok, Err}
use Rattle.rules.specs.declared.SheetError.{SheetError}
use Rattle.rules.specs.Sheets.{within}
use Rattle.rules.specs.SheetReading as reading
use Rattle.sheet_decimals.specs.declared.DecimalError.{DecimalError}
use Rattle.sheet_decimals.specs.Says.{decimal_of, up_to}

-- digits are read alike whatever the judge's answer is where one passes the limit
unfoldable pub PositiveSays : List ℕ → ℕ → ℕ → ℕ → Result ℕ DecimalError → Type 0
PositiveSays text from limit next r =
    (over : List ℕ → reading.Read ℕ) → decimal_of over text next r ≡ reading.positive (up_to limit) over (drop from text)

-- J22: digits at a place, as the number that starts at `start`
abbrev pub plain_at : List ℕ → ℕ → ℕ → reading.Read ℤ
plain_at text start from =
    reading.then (reading.positive within (λ r. reading.stop 4 (drop start text)) (drop from text)) (λ n rest. reading.got (pos n) rest)

-- J22: within ±2^40
abbrev pub WholeSmall : Result ℤ SheetError → Type 0
WholeSmall (Ok z) = nat_abs z ≤ 2 ^ 40
WholeSmall (Err e) = Unit {0}
