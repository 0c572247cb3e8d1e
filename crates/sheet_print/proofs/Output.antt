-- What is printed of an answer is the output that the definitions have. Assumes nothing.
use mathlib.Core.Path.{◌≡◌, refl, sym, ap, ◌∙◌}
use mathlib.Core.Bool.{Bool, true, false, cond}
use mathlib.Core.List.{List, ◌++◌}
use Prim.Native.Nat.{ℕ, ◌+◌, ◌-◌, ◌≤◌}
use native.Mathlib.Nat.{mul-le-mul}
use native.Mathlib.Omega.{arith}
use lib.ListN.{length, take, drop}
use lib.Seq.{length-take-le, take_at}
use lib.Dec.{T, eqb}
use lib.Ieee.{Float}
use borrow.Author.Tests.{eqb-true}
use Rattle.rules.specs.declared.PathRecord.{PathRecord}
use Rattle.rules.specs.Build.{
  BuildInput,
  valid_order,
  build_number,
  build_answer,
  accepted_record,
  refused_record,
  buffer_after,
  table,
}
use Rattle.rules.specs.SheetFaults.{Judged, readable, refused}
use Rattle.rules.specs.SheetAnswers.{sheet_input, cells_of, answer_for, buffer_for, most_cells, table_for, table_output, refused_output}
use Rattle.rules.proofs.Build.{by_order, length-table}
use Rattle.rules.proofs.BuildAnswers.{order_known, points_known, axes_known, accepted_buffer}
use Rattle.std.proofs.Common.{Result, Ok, Err}
use Rattle.rules.specs.declared.SheetError.{SheetError}
use Rattle.rules.specs.SheetAnswers.{SheetAnswer, sheet_answered}
use Rattle.rules.proofs.Questions.{number-not_zero}
use Rattle.sheet_print.specs.Printing.{path_cells, Printable, output_of}

-- what is printed of an answer, as the definitions have it: by its number
unfoldable pub output_by_number : SheetAnswer → List Float → List ℕ
output_by_number a buffer = cond (eqb a.number 0) (table_output a.path (take (path_cells a.path) buffer)) (refused_output a.number a.at)

pub by_number : (t : List ℕ) (r : Result PathRecord SheetError) (buffer : List Float)
    → output_of r buffer ≡ output_by_number (sheet_answered t r) buffer
unfolding output_by_number
by_number t (Ok path) buffer = refl
by_number t (Err e) buffer = rw (number-not_zero e.cause)

-- a build that answers 0
module _ (b : BuildInput) (e : build_number b (cells_of b) ≡ 0) where
  order_passes : T (valid_order b.config.order)
  order_passes = order_known b (cells_of b) e

  points_pass : (2 ≤ b.points) × (b.points ≤ 257)
  points_pass = points_known b (cells_of b) e

  axes_pass : b.axes ≤ 8
  axes_pass = axes_known b (cells_of b) e

  few_orders : b.config.order ≤ 7
  few_orders = by_order (λ n. n ≤ 7) (omega arith) (omega arith) (omega arith) b.config.order order_passes

  few : cells_of b ≤ most_cells
  unfolding cells_of
  few =
      let o : b.config.order + 1 ≤ 8 = omega (arith, few_orders) in
      let p : b.points - 1 ≤ 256 = omega (arith, points_pass.1) in
      omega (arith, mul-le-mul (mul-le-mul axes_pass p) o)

  path_cells_lem : path_cells (accepted_record b) ≡ cells_of b
  unfolding accepted_record cells_of
  path_cells_lem = refl

  long : length (table b) ≡ cells_of b
  unfolding cells_of
  long = length-table b order_passes points_pass.0

module _ (t : List ℕ) (before : List Float) (h : most_cells ≤ length before) where
  pub printable : (j : Judged) → (answer_for t j cells_of).number ≡ 0 → Printable (answer_for t j cells_of).path (length before)
  unfolding answer_for refused_record build_answer accepted_record
  printable (refused k place) e = record { few_orders = omega arith; few_segments = omega arith; few_axes = omega arith; inside = omega arith }
  printable (readable s) e = rw e (record {
    few_orders = few_orders (sheet_input s) e;
    few_segments = omega (arith, (points_pass (sheet_input s) e).1);
    few_axes = axes_pass (sheet_input s) e;
    inside = omega (arith, path_cells_lem (sheet_input s) e, few (sheet_input s) e);
  })

  -- the table is what stands in the first cells
  table_first : (b : BuildInput) → build_number b (cells_of b) ≡ 0 → take (cells_of b) (buffer_after b (take (cells_of b) before) ++ drop (cells_of b) before)
      ≡ table b
  table_first b e =
      let l : length (take (cells_of b) before) ≡ cells_of b = length-take-le (cells_of b) before (omega (arith, few b e)) in
      ap (λ x. take (cells_of b) (x ++ drop (cells_of b) before)) (accepted_buffer b (take (cells_of b) before) (ap (build_number b) l ∙ e))
      ∙ take_at (table b) (drop (cells_of b) before) (cells_of b) (long b e)

  -- of a build, by its number
  output_of_lem : (b : BuildInput) (n : ℕ) (path : PathRecord) → n ≡ build_number b (cells_of b) → path ≡ cond (eqb n 0) (accepted_record b) refused_record
      → output_by_number (record { number = n; at = length t; path = path }) (buffer_after b (take (cells_of b) before) ++ drop (cells_of b) before)
      ≡ cond (eqb n 0) (table_output path (table b)) (refused_output n (length t))
  unfolding output_by_number
  output_of_lem b n path e p = go (eqb n 0) refl
    where
      go : (x : Bool) → eqb n 0 ≡ x
          → output_by_number (record { number = n; at = length t; path = path }) (buffer_after b (take (cells_of b) before) ++ drop (cells_of b) before)
          ≡ cond (eqb n 0) (table_output path (table b)) (refused_output n (length t))
      go false f = rw f
      go true f =
          let z : build_number b (cells_of b) ≡ 0 = sym e ∙ eqb-true n 0 f in
          let q : path ≡ accepted_record b = p ∙ rw f in
          rw (f, q) (ap (table_output (accepted_record b))
          (ap (λ k. take k (buffer_after b (take (cells_of b) before) ++ drop (cells_of b) before)) (path_cells_lem b z) ∙ table_first b z))

  pub output_is : (j : Judged)
      → output_by_number (answer_for t j cells_of) (buffer_for j before)
      ≡ cond (eqb (answer_for t j cells_of).number 0) (table_output (answer_for t j cells_of).path (table_for j))
      (refused_output (answer_for t j cells_of).number (answer_for t j cells_of).at)
  unfolding output_by_number answer_for buffer_for table_for refused_record build_answer
  output_is (refused k place) = refl
  output_is (readable s) = output_of_lem (sheet_input s) (build_number (sheet_input s) (cells_of (sheet_input s))) _ refl refl
