-- What a job sheet stands for, what is built from it, and the program's whole output, by document 02's Wish 1. Assumes nothing.
use Rattle.std.specs.Prelude.{Bool, false, cond, ◌&&◌, List, [], ◌∷◌, ◌++◌, ℕ, zero, suc, ◌+◌, ◌*◌, ◌-◌, ◌/◌, ◌%◌, ◌^◌, min, ℤ, pos, negsuc, length, take, drop, get_or, leb, ltb, eqb, Result, Ok, Err, Float}
use Rattle.std.specs.Float.{binary64}
use Rattle.std.specs.Float.Ieee.{of_int, to_bits}
use Rattle.law_lists.specs.Lists.{joined, listed, all}
use Rattle.rules.specs.declared.OutOfRangeMode.TheVariants.{Error}
use Rattle.rules.specs.declared.PathRecord.{PathRecord}
use Rattle.rules.specs.declared.PathError.{PathError}
use Rattle.rules.specs.declared.SheetError.{SheetError}
use Rattle.rules.specs.Floats.{◌!◌}
use Rattle.rules.specs.Questions.{number_of}
use Rattle.rules.specs.Build.{BuildInput, input_of, given, table_length, build_answer, refused_record, buffer_after, table}
use Rattle.rules.specs.Sheets.{
  bytes,
  Item,
  Items,
  whole,
  again,
  one,
  more,
  states,
  Axis,
  axis,
  Axes,
  only,
  next,
  range,
  heading,
  Sheet,
  sheet,
  natural,
}
use Rattle.rules.specs.SheetFaults.{Judged, readable, refused, judge}

-- ---- what a sheet stands for

-- n copies of a list, one after the other
unfoldable pub times : {A : Type 0} → ℕ → List A → List A
times zero xs = []
times (suc n) xs = xs ++ times n xs

unfoldable mutual
  -- J5: "`(again 3 0 100)` stands for 0 100 0 100 0 100"
  pub numbers_of : Item → List ℤ
  numbers_of (whole z) = z ∷ []
  numbers_of (again n items) = times n (numbers items)

  pub numbers : Items → List ℤ
  numbers (one i) = numbers_of i
  numbers (more i items) = numbers_of i ++ numbers items

-- the axes, first to last
unfoldable pub axes_of : Axes → List Axis
axes_of (only a) = a ∷ []
axes_of (next a axes) = a ∷ axes_of axes

-- an axis's points, start and end
unfoldable pub points_of : Axis → List ℤ
points_of (axis p (states s e)) = numbers p

unfoldable pub start_of : Axis → List ℤ
start_of (axis p (states s e)) = numbers s

unfoldable pub end_of : Axis → List ℤ
end_of (axis p (states s e)) = numbers e

-- a list of each axis
unfoldable pub of_each : (Axis → List ℤ) → List Axis → List (List ℤ)
of_each f [] = []
of_each f (a ∷ rest) = f a ∷ of_each f rest

-- J26: how many numbers each of the lists has, or 0 where they differ. No list on a sheet is empty, so 0 is no m.
unfoldable pub columns_of : List (List ℤ) → ℕ
columns_of [] = 0
columns_of (xs ∷ rest) = cond (all (λ ys. eqb (length ys) (length xs)) rest) (length xs) 0

-- number k of list a
abbrev pub cell : List (List ℤ) → ℕ → ℕ → ℤ
cell lists a k = get_or (get_or lists a []) k (pos 0)

-- B11, B12: lists of so many numbers, "column-major"
unfoldable pub column_major : List (List ℤ) → ℕ → List Float
column_major lists columns = joined columns (λ k. listed (length lists) (λ a. of_int binary64 (cell lists a k)))

-- an order is a whole number like any other; a negative one is no order
unfoldable pub order_of : ℤ → ℕ
order_of (pos n) = n
order_of (negsuc n) = 0

-- J9, J26: what is built: "in mode Error with unmarked states", axes by as many numbers as each list has
unfoldable pub sheet_input : Sheet → BuildInput
sheet_input (sheet (heading order (range from to)) axes) =
    let each = axes_of axes in
    let points = of_each points_of each in
    let starts = of_each start_of each in
    let ends = of_each end_of each in
    let count = length (get_or points 0 []) in
    input_of
    (record {
      order = order_of order;
      s_min = record { 0 = of_int binary64 from };
      s_max = record { 0 = of_int binary64 to };
      out_of_range_mode = Error;
      start_state = given (length each) (columns_of starts) false;
      end_state = given (length each) (columns_of ends) false;
    })
    count
    (length each)
    (column_major points count)
    (column_major starts (columns_of starts))
    (column_major ends (columns_of ends))

-- ---- what is answered

-- J12: a refusal's number and byte place, or 0 and the sheet's length
pub record SheetPlace : Type 0 where
  pub number : ℕ
  pub at : ℕ

-- J12, J13: the same, with the record of the path that was built from the sheet
pub record SheetAnswer : Type 0 where
  pub number : ℕ
  pub at : ℕ
  pub path : PathRecord

-- 0 and how many bytes of output were written, or the number of a refusal and no bytes
pub record SheetPrinted : Type 0 where
  pub number : ℕ
  pub count : ℕ

-- F11: what the answers for a sheet are in document 02's terms
abbrev pub place_answered : {A : Type 0} → List ℕ → Result A SheetError → SheetPlace
place_answered t (Ok value) = record { number = 0; at = length t }
place_answered t (Err error) = record { number = number_of error.cause; at = error.at }

abbrev pub sheet_answered : List ℕ → Result PathRecord SheetError → SheetAnswer
sheet_answered t (Ok path) = record { number = 0; at = length t; path = path }
sheet_answered t (Err error) = record { number = number_of error.cause; at = error.at; path = refused_record }

abbrev pub count_answered : Result ℕ PathError → SheetPrinted
count_answered (Ok count) = record { number = 0; count = count }
count_answered (Err error) = record { number = number_of error; count = 0 }

-- how many coefficients a build has
unfoldable pub cells_of : BuildInput → ℕ
cells_of b = table_length b.axes (b.points - 1) b.config.order

-- J12, J13, J25: the reader's refusal; or the build's answer, "a build refusal has the sheet's length as place"
unfoldable pub answer_for : List ℕ → Judged → (BuildInput → ℕ) → SheetAnswer
answer_for t (refused k place) cells = record { number = k; at = place; path = refused_record }
answer_for t (readable s) cells =
    let a = build_answer (sheet_input s) (cells (sheet_input s)) in
    record { number = a.number; at = length t; path = a.path }

-- with a buffer of so many cells: the table goes into the first of them, so only a buffer that is too short is of another length
unfoldable pub sheet_answer : List ℕ → ℕ → SheetAnswer
sheet_answer t cells = answer_for t (judge t) (λ b. min cells (cells_of b))

-- with a buffer that is long enough
unfoldable pub sheet_served : List ℕ → SheetAnswer
sheet_served t = answer_for t (judge t) cells_of

-- D1, J27: the buffer afterwards: the table in its first cells and the others as they were; as it was at a refusal
unfoldable pub buffer_for : Judged → List Float → List Float
buffer_for (refused k place) before = before
buffer_for (readable s) before =
    let b = sheet_input s in
    buffer_after b (take (cells_of b) before) ++ drop (cells_of b) before

unfoldable pub sheet_buffer : List ℕ → List Float → List Float
sheet_buffer t before = buffer_for (judge t) before

-- the longest table: order 7, 256 segments, 8 axes
abbrev pub most_cells : ℕ
most_cells = 16384

-- J12: number and place that are printed; at 0 the sheet's length
unfoldable pub sheet_place : List ℕ → SheetPlace
sheet_place t = record { number = (sheet_served t).number; at = (sheet_served t).at }

-- ---- what is printed

-- J11: "the bits of each coefficient in hex": 16 digits, the highest first
abbrev pub hex_digit : ℕ → ℕ
hex_digit d = cond (ltb d 10) (48 + d) (87 + d)

unfoldable pub hex : ℕ → List ℕ
hex n = listed 16 (λ j. hex_digit (n / 16 ^ (15 - j) % 16))

-- J11: "(seg 0 1 4010000000000000 ..)": axis, segment, and a segment's coefficients, each after a space
unfoldable pub seg_line : ℕ → ℕ → List Float → List ℕ
seg_line a i coefficients =
    bytes "(seg " ++ (natural a ++ (bytes " " ++ (natural i
    ++ (joined (length coefficients) (λ k. bytes " " ++ hex (to_bits binary64 (coefficients ! k))) ++ bytes ")\n"))))

-- the coefficients of an axis's segment
abbrev pub segment : PathRecord → List Float → ℕ → ℕ → List Float
segment p t a i = take (p.order + 1) (drop ((a * p.segments + i) * (p.order + 1)) t)

-- J10, J11: "(table 3 2 1)": order, segments, axes; then the segments, by axis
unfoldable pub table_output : PathRecord → List Float → List ℕ
table_output p t =
    (bytes "(table " ++ (natural p.order ++ (bytes " " ++ (natural p.segments ++ (bytes " " ++ (natural p.axes ++ bytes ")\n"))))))
    ++ joined p.axes (λ a. joined p.segments (λ i. seg_line a i (segment p t a i)))

-- J12: "(refused 600 7)"
unfoldable pub refused_output : ℕ → ℕ → List ℕ
refused_output number place = bytes "(refused " ++ (natural number ++ (bytes " " ++ (natural place ++ bytes ")\n")))

-- the table that is built
unfoldable pub table_for : Judged → List Float
table_for (refused k place) = []
table_for (readable s) = table (sheet_input s)

-- J9, J10, J11, J12: the whole output
unfoldable pub sheet_output : List ℕ → List ℕ
sheet_output t =
    let a = sheet_served t in
    cond (eqb a.number 0) (table_output a.path (table_for (judge t))) (refused_output a.number a.at)

-- the longest output: that of the longest table
abbrev pub most_bytes : ℕ
most_bytes = 302240

-- buffers of so many cells and bytes are long enough for every sheet
abbrev pub suffice : ℕ → ℕ → Bool
suffice cells room = leb most_cells cells && leb most_bytes room

-- D1, J27: how many bytes are written; 2 where a buffer is shorter than what always suffices
unfoldable pub sheet_printed : List ℕ → ℕ → ℕ → SheetPrinted
sheet_printed t cells room = cond (suffice cells room) (record { number = 0; count = length (sheet_output t) }) (record { number = 2; count = 0 })

-- D1, J27: the buffers for cells and for bytes afterwards
unfoldable pub printed_cells : List ℕ → List Float → ℕ → List Float
printed_cells t before room = cond (suffice (length before) room) (sheet_buffer t before) before

unfoldable pub printed_bytes : List ℕ → ℕ → List ℕ → List ℕ
printed_bytes t cells before = cond (suffice cells (length before)) (sheet_output t ++ drop (length (sheet_output t)) before) before
