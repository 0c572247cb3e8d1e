-- What the answers for a whole job sheet say of the judge. Assumes nothing.
use Rattle.std.specs.Prelude.{◌≡◌, List, [], ◌∷◌, ℕ, ◌≤◌, ℤ, length, Result, Ok, Err}
use Rattle.rules.specs.declared.SheetError.{SheetError}
use Rattle.rules.specs.Questions.{number_of}
use Rattle.rules.specs.Sheets.{Sheet}
use Rattle.rules.specs.SheetReading as reading
use Rattle.rules.specs.SheetFaults.{Refusal, refusal, sizes, Judged, readable, refused}
use Rattle.sheet_record.specs.declared.SheetNumbers.{SheetNumbers}
use Rattle.sheet_record.specs.Held.{ReadOf}
use Rattle.sheet_reading.specs.Says.{stop_at}

-- a text that is judged whole: what was read of it, or refused for a size, or where the reading stops
abbrev pub WholeSays : List ℕ → Result (Result SheetNumbers SheetError) SheetError → List ℤ → List ℤ → List ℤ → Type 0
WholeSays text (Ok (Ok n)) points start end =
    (s : Sheet) × (reading.sheet_of text ≡ reading.got s []) × (sizes s ≡ []) × ReadOf s n points start end
WholeSays text (Ok (Err e)) points start end =
    (s : Sheet) × (reading.sheet_of text ≡ reading.got s []) × ((rest : List Refusal) × (sizes s ≡ refusal (number_of e.cause) e.at ∷ rest))
WholeSays text (Err e) points start end = (reading.sheet_of text ≡ stop_at text e) × (e.at ≤ length text)

-- J19: a readable sheet is handed over, or its refusal, as the judge says, who looks at 32,768 bytes at the most
abbrev pub SheetSays : Judged → Result SheetNumbers SheetError → List ℤ → List ℤ → List ℤ → Type 0
SheetSays (readable s) (Ok n) points start end = ReadOf s n points start end
SheetSays (readable s) (Err e) points start end = ⊥
SheetSays (refused k place) (Ok n) points start end = ⊥
SheetSays (refused k place) (Err e) points start end = (number_of e.cause ≡ k) × (e.at ≡ place)
