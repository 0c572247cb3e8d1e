-- What the answer says in the terms of the judge of job sheets, and how large its number is. Assumes nothing.
use Prim.{Unit}
use Rattle.std.specs.Prelude.{◌≡◌, Bool, ◌&&◌, List, ℕ, ◌≤◌, leb, drop, Result, Ok, Err}
use Rattle.rules.specs.SheetReading as reading
use Rattle.sheet_decimals.specs.declared.DecimalError.{DecimalError}
use Rattle.sheet_decimals.specs.declared.DecimalError.TheVariants.{Missing, Over}

-- the reading that the answer stands for, in a text that was read up to `next`
-- `over`: the judge's answer where a digit passes the limit
abbrev pub decimal_of : (List ℕ → reading.Read ℕ) → List ℕ → ℕ → Result ℕ DecimalError → reading.Read ℕ
decimal_of over text next (Ok n) = reading.got n (drop next text)
decimal_of over text next (Err Missing) = reading.stop 600 (drop next text)
decimal_of over text next (Err Over) = over (drop next text)

-- a digit, 48 to 57, not below `least`
abbrev pub digit_from : ℕ → ℕ → Bool
digit_from least b = leb least b && leb b 57

abbrev pub up_to : ℕ → ℕ → Bool
up_to limit n = leb n limit

-- digits are read alike whatever that answer is
unfoldable pub DigitsSay : List ℕ → ℕ → ℕ → ℕ → ℕ → Result ℕ DecimalError → Type 0
DigitsSay text from n limit next r =
    (over : List ℕ → reading.Read ℕ) → decimal_of over text next r ≡ reading.digits (up_to limit) over n (drop from text)

-- its number
abbrev pub DecimalSmall : ℕ → ℕ → Result ℕ DecimalError → Type 0
DecimalSmall least limit (Ok n) = (least ≤ n) × (n ≤ limit)
DecimalSmall least limit (Err e) = Unit {0}
