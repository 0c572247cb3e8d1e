-- What an answer says in the terms of the judge of job sheets. Assumes nothing.
use Rattle.std.specs.Prelude.{◌≡◌, ◌≢◌, Bool, true, false, List, ℕ, ◌+◌, ◌≤◌, drop, slice_get, Some, Result, Ok, Err, IfErr}
use Rattle.rules.specs.declared.PathError.TheVariants.{InvalidSheet}
use Rattle.rules.specs.declared.SheetError.{SheetError}
use Rattle.rules.specs.Questions.{number_of}
use Rattle.rules.specs.SheetReading as reading

-- J17: 600 at a place
abbrev pub invalid_at : ℕ → SheetError
invalid_at place = record { cause = InvalidSheet; at = place }

-- a refusal, in a text
abbrev pub stop_at : {A : Type 0} → List ℕ → SheetError → reading.Read A
stop_at text e = reading.stop (number_of e.cause) (drop e.at text)

-- the reading that an answer stands for, in a text that was read up to `next`
abbrev pub read_of : {A : Type 0} → List ℕ → ℕ → Result A SheetError → reading.Read A
read_of text next (Ok a) = reading.got a (drop next text)
read_of text next (Err e) = stop_at text e

-- an answer's places: a text of `len` bytes was read up to `next`, not before `from`; a refusal lies in it
abbrev pub IsInside : {A : Type 0} → ℕ → ℕ → ℕ → Result A SheetError → Type 0
IsInside from len next (Ok a) = from ≤ next
IsInside from len next (Err e) = e.at ≤ len

-- after a refusal a text was read up to the refusal's place
abbrev pub Stands : {A : Type 0} → ℕ → Result A SheetError → Type 0
Stands next result = IfErr result (λ e. next ≡ e.at)

-- a byte of a text is passed, where it stands
abbrev pub Passed : List ℕ → ℕ → ℕ → ℕ → Bool → Type 0
Passed text from b next true = (slice_get text from ≡ Some b) × (next ≡ from + 1)
Passed text from b next false = (slice_get text from ≢ Some b) × (next ≡ from)
