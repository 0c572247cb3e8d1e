-- What the sizes of axes come to. Assumes nothing.
use Rattle.std.specs.Prelude.{cond, ℕ, leb, eqb, Option, None, Some}
use Rattle.std.specs.Option.{option_or}
use Rattle.rules.specs.declared.PathError.TheVariants.{InvalidLength, InvalidShape}
use Rattle.rules.specs.declared.SheetError.{SheetError}
use Rattle.rules.specs.Questions.{number_of}
use Rattle.rules.specs.SheetAnswers.{SheetPlace}
use Rattle.sheet_reading.specs.declared.Count.{Count}
use Rattle.sheet_sizes.specs.declared.AxisSizes.{AxisSizes}
use Rattle.sheet_sizes.specs.declared.AxesSizes.{AxesSizes}
use Rattle.sheet_sizes.specs.declared.SizesSofar.{SizesSofar}

-- J23: 2 for a list of so many numbers
abbrev pub too_many : ℕ → Count → Option SheetError
too_many many list = cond (leb many list.numbers) (Some (record { cause = InvalidLength; at = list.over })) None

-- J24: 3 for another count of points than axis one's
abbrev pub unlike : AxisSizes → ℕ → Option SheetError
unlike z count = cond (eqb z.points.numbers count) None (Some (record { cause = InvalidShape; at = z.close }))

-- J23, J24: the first of 2 and 3 on an axis, in the order of the text, where axis one has so many points
abbrev pub first_fault : AxisSizes → ℕ → Option SheetError
first_fault z count = option_or (option_or (option_or (too_many 258 z.points) (unlike z count)) (too_many 4 z.start)) (too_many 4 z.end)

-- J26: how many numbers each list has so far, with one more: 0 where they differ
abbrev pub together : ℕ → ℕ → ℕ
together sofar n = cond (eqb sofar n) n 0

-- what was counted on some axes, with one more
abbrev pub axes_with : Option AxesSizes → AxisSizes → AxesSizes
axes_with None z = record {
  points = z.points.numbers;
  start = z.start.numbers;
  end = z.end.numbers;
  fault = first_fault z z.points.numbers;
}
axes_with (Some axes) z = record {
  points = axes.points;
  start = together axes.start z.start.numbers;
  end = together axes.end z.end.numbers;
  fault = option_or axes.fault (first_fault z axes.points);
}

-- ---- the same by numbers: how many axes there were, and a refusal's number, 0 where there is none

-- a refusal's number and place
abbrev pub place_of : ℕ → ℕ → SheetPlace
place_of k place = record { number = k; at = place }

-- J23, J24: the first of 2 and 3 on an axis, in the order of the text, where axis one has so many points
unfoldable pub fault_of : AxisSizes → ℕ → SheetPlace
fault_of z count =
    cond (leb 258 z.points.numbers) (place_of 2 z.points.over)
    (cond (eqb z.points.numbers count)
    (cond (leb 4 z.start.numbers) (place_of 2 z.start.over) (cond (leb 4 z.end.numbers) (place_of 2 z.end.over) (place_of 0 0)))
    (place_of 3 z.close))

-- J26: how many numbers each list has so far, with one more: 0 where they differ
abbrev pub together_of : ℕ → ℕ → ℕ → ℕ
together_of k sofar n = cond (eqb k 0) n (cond (eqb sofar n) n 0)

-- what was counted on k axes, with one more
unfoldable pub with_axis : ℕ → SizesSofar → AxisSizes → SizesSofar
with_axis k sofar z =
    let count = cond (eqb k 0) z.points.numbers sofar.points in
    let fault = cond (eqb sofar.number 0) (fault_of z count) (place_of sofar.number sofar.at) in
    record {
      points = count;
      start = together_of k sofar.start z.start.numbers;
      end = together_of k sofar.end z.end.numbers;
      number = fault.number;
      at = fault.at;
    }

-- what was counted on k axes, as far as it is more than a refusal
abbrev pub counted : ℕ → SizesSofar → Option AxesSizes
counted k sofar = cond (eqb k 0) None (Some (record { points = sofar.points; start = sofar.start; end = sofar.end; fault = None }))

-- the same of a fault, or 0 and 0
abbrev pub told : Option SheetError → SheetPlace
told None = place_of 0 0
told (Some e) = place_of (number_of e.cause) e.at

-- J23, J24: the earliest refusal stays
abbrev pub earliest : SizesSofar → Option SheetError → SheetPlace
earliest sofar fault = cond (eqb sofar.number 0) (told fault) (place_of sofar.number sofar.at)
