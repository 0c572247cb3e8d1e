-- What was read of a sheet is within reach of the code, and what is built of it is what the sheet stands for. Assumes nothing.
use mathlib.Core.Path.{◌≡◌, refl, sym, ap, ◌∙◌, subst}
use mathlib.Core.List.{List, [], ◌∷◌}
use Prim.Native.Nat.{ℕ, suc, ◌*◌, ◌-◌, ◌≤◌, ◌<◌}
use native.Mathlib.Nat.{le_trans, le_of_eq, mul-le-mul, mul-le-mul_right}
use native.Mathlib.Omega.{arith}
use lib.IntN.{ℤ}
use lib.ListN.{length, get_or}
use lib.Ieee.{binary64, of_int}
use Rattle.law_lists.proofs.Filling.{listed_ext, joined_ext}
use Rattle.rules.specs.Sheets.{Axis, range, heading, Sheet, sheet}
use Rattle.rules.specs.Build.{table_length}
use Rattle.rules.specs.SheetAnswers.{points_of, start_of, end_of, of_each, columns_of, column_major, order_of, sheet_input, cells_of}
use Rattle.sheet_record.specs.declared.SheetNumbers.{SheetNumbers}
use Rattle.sheet_record.specs.Held.{Near, Held, axes_in, ReadOf}
use Rattle.sheet_record.specs.Reached.{Small, InReach, Reached}
use Rattle.sheet_record.specs.declared.SheetRead.{SheetRead}
use Rattle.sheet_record.specs.ReadOf.{IsReadOf}
use Rattle.sheet_columns.specs.Columns.{columns_at}
use Rattle.sheet_columns.specs.Input.{input_held, input_read}
use Rattle.sheet_columns.proofs.States.{columns_long}

pub length-of_each : (f : Axis → List ℤ) (axes : List Axis) → length (of_each f axes) ≡ length axes
unfolding of_each
length-of_each f [] = refl
length-of_each f (a ∷ rest) = ap suc (length-of_each f rest)

-- ---- held lists, each with at least so many numbers

module _ {stride columns : ℕ} {lists : List (List ℤ)} {buffer : List ℤ} (h : Held stride lists buffer)
    (long : (a : ℕ) → a < length lists → columns ≤ length (get_or lists a [])) where
  pub columns_held : columns_at stride (length lists) columns buffer ≡ column_major lists columns
  unfolding columns_at column_major
  columns_held = joined_ext columns _ _ (λ k l. listed_ext (length lists) _ _ (λ a b. ap (of_int binary64) (h.holds a k b (le_trans l (long a b)))))

  pub in_reach : columns ≤ stride → length lists ≤ 8 → InReach stride (length lists) columns buffer
  in_reach l few = record {
    apart = l;
    inside = le_trans (mul-le-mul_right stride few) (le_of_eq (sym h.room));
    near = λ a k b m. subst Near (sym (h.holds a k b (le_trans m (long a b)))) (h.near a k b (le_trans m (long a b)));
  }

-- ---- what was read

module _ {s : Sheet} {n : SheetNumbers} {points start end : List ℤ} (h : ReadOf s n points start end) where
  -- the lists of a kind
  abbrev each : (Axis → List ℤ) → List (List ℤ)
  each f = of_each f (axes_in s)

  rows : (f : Axis → List ℤ) → length (each f) ≡ n.axes
  rows f = length-of_each f (axes_in s) ∙ sym h.axes_is

  points_long : (a : ℕ) → a < length (each points_of) → n.points ≤ length (get_or (each points_of) a [])
  points_long a l = le_of_eq (sym (h.points_are a (rw length-of_each at l)))

  state_long : (f : Axis → List ℤ) {columns : ℕ} → columns ≡ columns_of (each f) → (a : ℕ) → a < length (each f) → columns ≤ length (get_or (each f) a [])
  state_long f e a l = rw e (columns_long (each f) a l)

  few_rows : (f : Axis → List ℤ) → length (each f) ≤ 8
  few_rows f = rw (rows f) h.few_axes

  abbrev reach : (f : Axis → List ℤ) {stride columns : ℕ} {buffer : List ℤ} → Held stride (each f) buffer
      → ((a : ℕ) → a < length (each f) → columns ≤ length (get_or (each f) a [])) → columns ≤ stride → InReach stride n.axes columns buffer
  reach f {stride} {columns} {buffer} held long l = subst (λ (k : ℕ). InReach stride k columns buffer) (rows f) (in_reach held long l (few_rows f))

  pub reached : Reached n points start end
  reached = record {
    small = record {
      order_near = h.order_near;
      from_near = h.from_near;
      to_near = h.to_near;
      few_axes = h.few_axes;
      some_points = h.some_points;
      few_points = h.few_points;
      few_start = h.few_start;
      few_end = h.few_end;
    };
    points_reached = reach points_of h.points_held points_long (omega arith);
    start_reached = reach start_of h.start_held (state_long start_of h.start_is) (omega arith);
    end_reached = reach end_of h.end_held (state_long end_of h.end_is) (omega arith);
  }

  pub points_are_read : n.points ≡ length (get_or (each points_of) 0 [])
  points_are_read = sym (h.points_are 0 (omega (arith, h.axes_is, h.some_axes)))

  major : (f : Axis → List ℤ) {stride columns k : ℕ} {buffer : List ℤ} → Held stride (each f) buffer
      → ((a : ℕ) → a < length (each f) → columns ≤ length (get_or (each f) a [])) → columns ≡ k
      → columns_at stride n.axes columns buffer ≡ column_major (each f) k
  major f {stride} {columns} {k} {buffer} held long e =
      ap (λ (r : ℕ). columns_at stride r columns buffer) (sym (rows f)) ∙ columns_held held long ∙ ap (column_major (each f)) e

-- J9, J26: what is built of what was read is what the sheet stands for
pub input_read_lem : (s : Sheet) {n : SheetNumbers} {points start end : List ℤ} → ReadOf s n points start end → input_held n points start end ≡ sheet_input s
unfolding sheet_input
input_read_lem (sheet (heading order (range from to)) axes) h =
    cc (
      points_are_read h,
      major h points_of h.points_held (points_long h) (points_are_read h),
      major h start_of h.start_held (state_long h start_of h.start_is) h.start_is,
      major h end_of h.end_held (state_long h end_of h.end_is) h.end_is,
    )

-- J9, J26: the same of a record of what was read
pub input_is : (s : Sheet) (read : SheetRead) → IsReadOf s read → input_read read ≡ sheet_input s
input_is s read h = input_read_lem s h

-- with as many coefficients
pub cells_are : (s : Sheet) (read : SheetRead) → IsReadOf s read
    → let n = read.numbers in table_length n.axes (n.points - 1) (order_of n.order) ≡ cells_of (sheet_input s)
unfolding cells_of
cells_are s read h = ap cells_of (input_is s read h)

-- how many numbers the lists have
pub sizes : (n : SheetNumbers) → Small n → (n.points * n.axes ≤ 2056) × (n.start * n.axes ≤ 24) × (n.end * n.axes ≤ 24)
sizes n h = (mul-le-mul h.few_points h.few_axes, mul-le-mul h.few_start h.few_axes, mul-le-mul h.few_end h.few_axes)
