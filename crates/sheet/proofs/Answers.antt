-- What is read is answered as the definitions say. Assumes nothing.
use mathlib.Core.Path.{◌≡◌, refl}
use mathlib.Core.List.{List, ◌++◌}
use Prim.Native.Nat.{ℕ, min}
use lib.IntN.{ℤ}
use lib.ListN.{length, take, drop}
use lib.Ieee.{Float}
use Rattle.std.proofs.Common.{Result, Ok, Err}
use Rattle.rules.specs.declared.PathRecord.{PathRecord}
use Rattle.rules.specs.declared.PathError.{PathError}
use Rattle.rules.specs.declared.SheetError.{SheetError}
use Rattle.rules.specs.Questions.{number_of, number_answered}
use Rattle.rules.specs.Build.{build_number, build_answer, build_answered, buffer_after}
use Rattle.rules.specs.Sheets.{Sheet}
use Rattle.rules.specs.SheetFaults.{Judged, readable, refused, judge}
use Rattle.rules.specs.SheetAnswers.{
  place_answered,
  sheet_answered,
  sheet_input,
  cells_of,
  answer_for,
  sheet_answer,
  sheet_served,
  buffer_for,
  sheet_buffer,
  sheet_place,
}
use Rattle.sheet_record.specs.declared.SheetNumbers.{SheetNumbers}
use Rattle.sheet_record.specs.Held.{ReadOf}
use Rattle.sheet_record.specs.Reached.{Reached}
use Rattle.sheet_columns.proofs.Read.{reached}
use Rattle.sheet_reader.specs.Says.{SheetSays}

-- what the reader's answer says of the judge's
pub record Readable (j : Judged) (n : SheetNumbers) (points start end : List ℤ) : Type 0 where
  pub «sheet» : Sheet
  pub is : j ≡ readable «sheet»
  pub read : ReadOf «sheet» n points start end

pub it_is_readable : (points start end : List ℤ) (j : Judged) (n : SheetNumbers) → SheetSays j (Ok n) points start end → Readable j n points start end
it_is_readable points start end (readable s) n h = record { «sheet» = s; is = refl; read = h }
it_is_readable points start end (refused k place) n h = absurd h

-- and it is within reach of the code that goes on with it
pub it_is_reached : (points start end : List ℤ) (j : Judged) (n : SheetNumbers) → SheetSays j (Ok n) points start end → Reached n points start end
it_is_reached points start end j n h = reached (it_is_readable points start end j n h).read

pub it_is_refused : (points start end : List ℤ) (j : Judged) (e : SheetError) → SheetSays j (Err e) points start end
    → j ≡ refused (number_of e.cause) e.at
it_is_refused points start end (readable s) e h = absurd h
it_is_refused points start end (refused k place) e h = let f = h.0 in let g = h.1 in rw (f, g)

-- an answer of the build, or of its questions, at the end of a text
abbrev pub at_end : {A : Type 0} → List ℕ → Result A PathError → Result A SheetError
at_end t (Ok value) = Ok value
at_end t (Err cause) = Err (record { cause = cause; at = length t })

-- ---- number and place

module _ (t : List ℕ) where
  served_place : (s : Sheet) (number : ℕ) → judge t ≡ readable s → number ≡ build_number (sheet_input s) (cells_of (sheet_input s))
      → record { number = number; at = length t } ≡ sheet_place t
  unfolding sheet_place sheet_served answer_for build_answer
  served_place s number e n = rw (e, n)

  pub place_read : (r : Result (Unit {0}) PathError) (s : Sheet) → judge t ≡ readable s
      → number_answered r ≡ build_number (sheet_input s) (cells_of (sheet_input s)) → place_answered t (at_end t r) ≡ sheet_place t
  place_read (Ok value) s e n = served_place s _ e n
  place_read (Err cause) s e n = served_place s _ e n

  pub place_refused : (e : SheetError) → judge t ≡ refused (number_of e.cause) e.at → place_answered {A = Unit {0}} t (Err e) ≡ sheet_place t
  unfolding sheet_place sheet_served answer_for
  place_refused e f = rw f

-- ---- the build

module _ (t : List ℕ) (before : List Float) where
  pub not_built : (e : SheetError) → judge t ≡ refused (number_of e.cause) e.at
      → (sheet_answered t (Err e) ≡ sheet_answer t (length before)) × (before ≡ sheet_buffer t before)
  unfolding sheet_answer answer_for sheet_buffer buffer_for
  not_built e f = (rw f, rw f)

  module _ (s : Sheet) (after : List Float) (e : judge t ≡ readable s) where
    pub built : (r : Result PathRecord PathError)
        → let b = sheet_input s in
        (build_answered r ≡ build_answer b (min (length before) (cells_of b)))
        × (after ≡ buffer_after b (take (cells_of b) before) ++ drop (cells_of b) before)
        → (sheet_answered t (at_end t r) ≡ sheet_answer t (length before)) × (after ≡ sheet_buffer t before)
    unfolding sheet_answer answer_for sheet_buffer buffer_for
    built (Ok path) h = (rw (e, ← h.0), rw e h.1)
    built (Err cause) h = (rw (e, ← h.0), rw e h.1)
