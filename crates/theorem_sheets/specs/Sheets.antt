-- Theorems on job sheets, by document 02's Wish 1: which texts the judge of crates/rules/specs accepts, and where it refuses the others. Proved in
-- proofs/: `accepted_are_sheets`, `judged_are_sheets` and `one_reading` of Claims.antt, `faults_place` of Faults.antt, and `first_of_three`,
-- `first_is_one`, `sizes_are_earliest` and `refusals_are_earliest` of Precedence.antt. Assumes nothing.
use Rattle.std.specs.Prelude.{◌≡◌, ◌↔◌, ◌⊎◌, ℕ, ◌-◌, ◌≤◌, length, take}
use mathlib.Core.List.{List, [], Memᴰ}
use Rattle.rules.specs.Sheets.{Sheet, spell_sheet, Free, Limited}
use Rattle.rules.specs.SheetReading.{got, stop, sheet_of}
use Rattle.rules.specs.SheetFaults.{refusal, Dead, FirstOfThree, sizes, sized, readable, refused, longest, judge}

-- J14: "The reader accepts exactly this grammar": a text is accepted exactly when it spells a sheet within the limits, and that sheet is handed over.
-- Nothing is left over.
unfoldable pub AcceptedAreSheets : Type 0
AcceptedAreSheets =
    ((t : List ℕ) (s : Sheet) → (sheet_of t ≡ got s []) ↔ (Limited s × (spell_sheet s ≡ t)))
    × ((t rest : List ℕ) (s : Sheet) → sheet_of t ≡ got s rest → rest ≡ [])

-- J14, J19: the same of the whole judgement, which also asks for the length and the sizes
unfoldable pub JudgedAreSheets : Type 0
JudgedAreSheets =
    (t : List ℕ) (s : Sheet) → (judge t ≡ readable s) ↔ (Limited s × (spell_sheet s ≡ t) × (length t ≤ longest) × (sizes s ≡ []))

-- J15: "each sheet has one reading": two sheets, nested or numbered without limit, that are spelled alike are the same
unfoldable pub OneReading : Type 0
OneReading = (a b : Sheet) → Free a → Free b → spell_sheet a ≡ spell_sheet b → a ≡ b

-- J17, J18, J19: where the judge says 600 at a place, the bytes before it can become a sheet, nested or numbered without limit, and with the byte at it
-- they cannot. Only the bytes before 32,768 are judged. A text that is not longer is then no sheet, also where the place is its length.
unfoldable pub FaultsPlace : Type 0
FaultsPlace =
    (t : List ℕ) (place : ℕ) → judge t ≡ refused 600 place
    → Dead (take longest t) place × (length t ≤ longest → (s : Sheet) → Free s → spell_sheet s ≡ t → ⊥)

-- J16, J21, J22: where the judge stops, it stops with the earliest of 600, 601 and 4
unfoldable pub FirstOfThreeIsFound : Type 0
FirstOfThreeIsFound = (t rest : List ℕ) (k : ℕ) → sheet_of t ≡ stop k rest → FirstOfThree t k (length t - length rest)

-- J16: no text has two
unfoldable pub FirstOfThreeIsOne : Type 0
FirstOfThreeIsOne = (t : List ℕ) (k j p q : ℕ) → FirstOfThree t k p → FirstOfThree t j q → (k ≡ j) × (p ≡ q)

-- J23, J24: "then the earliest among 2 .., 3 ..": where a sheet within the limits is refused, it is refused with the earliest of all that its sizes give
unfoldable pub SizesAreEarliest : Type 0
SizesAreEarliest =
    (s : Sheet) (k place : ℕ) → sized s (sizes s) ≡ refused k place
    → Memᴰ (refusal k place) (sizes s) × ((j p : ℕ) → Memᴰ (refusal j p) (sizes s) → place ≤ p)

-- J16, J19: each refusal of the judge is the first of the three in the bytes before 32,768; or the text is not longer and spells a sheet within the
-- limits, and is refused for its sizes
unfoldable pub RefusalsAreEarliest : Type 0
RefusalsAreEarliest =
    (t : List ℕ) (k place : ℕ) → judge t ≡ refused k place
    → FirstOfThree (take longest t) k place
    ⊎ ((length t ≤ longest) × ((s : Sheet) × Limited s × (spell_sheet s ≡ t) × (sized s (sizes s) ≡ refused k place)))

-- J16, J23, J24: the numbers that the judge refuses with: the first of the three, or one of the sizes. Proved by `judged_numbers` of Numbers.antt.
abbrev pub JudgeNumber : ℕ → Type 0
JudgeNumber k = (k ≡ 600) ⊎ (k ≡ 601) ⊎ (k ≡ 4) ⊎ (k ≡ 2) ⊎ (k ≡ 3)

unfoldable pub JudgedNumbers : Type 0
JudgedNumbers = (t : List ℕ) (k place : ℕ) → judge t ≡ refused k place → JudgeNumber k
