-- Questions: document 01's word for the tests before a build, a query and a master check. "Asked in this order; the first no gives its number."
-- Assumes nothing.
use Rattle.std.specs.Prelude.{ℕ, Bool, true, false, List, [], ◌∷◌, Result, Ok, Err}
use Rattle.rules.specs.declared.PathError.{PathError}
use Rattle.rules.specs.declared.PathError.TheVariants.{
  InvalidLength,
  InvalidShape,
  InvalidArgument,
  InvalidDimension,
  InvalidRange,
  InvalidOrder,
  DimensionMismatch,
  NotEnoughWaypoints,
  OutOfRangeS,
  UnsupportedDerivativeOrder,
  InvalidSheet,
  SheetTooDeep,
}

-- a question's answer, and the number that a no gives
pub data Question : Type 0 where
  ask : Bool → ℕ → Question

-- G4: the number of the first no, and 0 where every answer is yes
unfoldable pub first_no : List Question → ℕ
first_no [] = 0
first_no (ask true n ∷ rest) = first_no rest
first_no (ask false n ∷ rest) = n

-- G4: the number of each refusal
abbrev pub number_of : PathError → ℕ
number_of InvalidLength = 2
number_of InvalidShape = 3
number_of InvalidArgument = 4
number_of InvalidDimension = 300
number_of InvalidRange = 301
number_of InvalidOrder = 302
number_of DimensionMismatch = 303
number_of NotEnoughWaypoints = 304
number_of OutOfRangeS = 305
number_of UnsupportedDerivativeOrder = 308
number_of InvalidSheet = 600
number_of SheetTooDeep = 601

-- F11: the number that an answer stands for: 0 where the call is served
abbrev pub number_answered : {A : Type 0} → Result A PathError → ℕ
number_answered (Ok value) = 0
number_answered (Err error) = number_of error
