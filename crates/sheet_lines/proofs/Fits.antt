-- How long the output can be: that of the longest table is the longest. Assumes nothing.
use Prim.{tt}
use mathlib.Core.Path.{◌≡◌, refl, sym, ap, ◌∙◌}
use mathlib.Core.List.{List}
use Prim.Native.Nat.{ℕ, zero, suc, ◌+◌, ◌-◌, ◌*◌, ◌^◌, ◌<◌, ◌≤◌}
use native.Mathlib.Nat.{lt_of_lt_of_le, le_trans, le_of_eq, zero-add, suc-add}
use native.Mathlib.Omega.{arith}
use lib.Dec.{lit≤}
use lib.ListN.{length, take, drop, length-append, length-take}
use lib.Ieee.{Float}
use Rattle.law_lists.specs.Lists.{joined}
use Rattle.law_lists.proofs.Lent.{part_length}
use Rattle.rules.specs.declared.PathRecord.{PathRecord}
use Rattle.rules.specs.Sheets.{decimal, natural}
use Rattle.rules.specs.SheetAnswers.{seg_line, segment, table_output}
use Rattle.sheet_lines.specs.Output.{table_line, axis_lines}
use Rattle.sheet_lines.specs.OutputFits.{OutputFits}
use Rattle.sheet_digits.proofs.Decimal.{most_digits, some_digit, length_digit}
use Rattle.sheet_lines.proofs.Lengths.{length-coefficients, length_line, length-table_line, length_refusal}

-- ---- refusals

-- a call that writes a part asks that the part fits
pub most_refusal : (number place : ℕ) → number < 2 ^ 32 → place < 2 ^ 64 → length (natural number) + length (natural place) ≤ 30
most_refusal number place h k =
    omega (
      arith,
      most_digits 9 number (lt_of_lt_of_le h (lit≤ tt)),
      most_digits 19 place (lt_of_lt_of_le k (lit≤ tt)),
    )

-- ---- sums of lengths

unfoldable sum : ℕ → (ℕ → ℕ) → ℕ
sum zero g = 0
sum (suc n) g = sum n g + g n

length-sum : {A : Type 0} (n : ℕ) (f : ℕ → List A) → length (joined n f) ≡ sum n (λ i. length (f i))
unfolding joined sum
length-sum zero f = refl
length-sum (suc n) f = length-append (joined n f) (f n) ∙ ap (λ (k : ℕ). k + length (f n)) (length-sum n f)

sum_le : (n : ℕ) (g h : ℕ → ℕ) → ((i : ℕ) → i < n → g i ≤ h i) → sum n g ≤ sum n h
unfolding sum
sum_le zero g h l = omega arith
sum_le (suc n) g h l = omega (arith, sum_le n g h (λ i b. l i (omega arith)), l n (omega arith))

-- with k terms more
sum_more : (k n : ℕ) (g : ℕ → ℕ) → sum n g ≤ sum (k + n) g
unfolding sum
sum_more zero n g = rw zero-add (omega arith)
sum_more (suc k) n g = rw suc-add (omega (arith, sum_more k n g))

-- up to all of them
upto : (m n : ℕ) (g : ℕ → ℕ) {all : ℕ} → n ≤ m → sum m g ≡ all → sum n g ≤ all
upto m n g h e = let k : m - n + n ≡ m = omega arith in omega (arith, sum_more (m - n) n g, ap (λ (j : ℕ). sum j g) k)

-- ---- tables

-- a line of eight coefficients; an axis of 256 such lines
abbrev longest_line : ℕ → ℕ
longest_line i = 145 + length (natural i)

longest_axis : sum 256 longest_line ≡ 37778
unfolding sum natural decimal
longest_axis = refl

longest_axes : sum 8 (λ a. 37778) ≡ 302224
unfolding sum
longest_axes = refl

-- a line's coefficients are eight
eight : (t : List Float) (order segments a i : ℕ) → order ≡ 7 → segments ≡ 256 → a < 8 → i < 256 → 8 * 256 * 8 ≤ length t
    → length (take (order + 1) (drop ((a * segments + i) * (order + 1)) t)) ≡ 8
eight t order segments a i o s h l room = rw (o, s) (part_length ((a * 256 + i) * 8) 8 t (omega arith))

three_digits : length (natural 256) ≡ 3
unfolding natural decimal
three_digits = refl

module _ (p : PathRecord) (t : List Float) where
  -- J11: a line
  length-segment_line : (a i : ℕ) → length (seg_line a i (segment p t a i)) ≡ length (natural a) + length (natural i) + length (segment p t a i) * 17 + 8
  length-segment_line a i = omega (arith, length_line a i (segment p t a i), length-coefficients (segment p t a i))

  most_coefficients : (a i : ℕ) → length (segment p t a i) ≤ p.order + 1
  most_coefficients a i = omega (arith, length-take (p.order + 1) (drop ((a * p.segments + i) * (p.order + 1)) t))

  axis_most : (a : ℕ) → a < 8 → p.order ≤ 7 → p.segments ≤ 256 → length (axis_lines p t a) ≤ 37778
  axis_most a h o s =
      let line : (i : ℕ) → i < p.segments → length (seg_line a i (segment p t a i)) ≤ longest_line i =
      λ i l. omega (arith, length-segment_line a i, most_coefficients a i, length_digit a (omega arith)) in
      le_trans (le_of_eq (length-sum p.segments _)) (le_trans (sum_le p.segments _ longest_line line) (upto 256 p.segments longest_line s longest_axis))

  axis_least : (a : ℕ) → a < 8 → p.order ≡ 7 → p.segments ≡ 256 → 8 * 256 * 8 ≤ length t → 37778 ≤ length (axis_lines p t a)
  axis_least a h o s room =
      let line : (i : ℕ) → i < p.segments → longest_line i ≤ length (seg_line a i (segment p t a i)) =
      λ i l. omega (arith, length-segment_line a i, eight t p.order p.segments a i o s h (omega arith) room, some_digit a) in
      le_trans (le_of_eq (sym longest_axis ∙ ap (λ (n : ℕ). sum n longest_line) (sym s)))
      (le_trans (sum_le p.segments longest_line _ line) (le_of_eq (sym (length-sum p.segments _))))

  pub table_room : p.order ≤ 7 → p.segments ≤ 256 → p.axes ≤ 8 → length (table_line p) + length (joined p.axes (axis_lines p t)) ≤ 302240
  table_room o s x =
      let axes : sum p.axes (λ a. length (axis_lines p t a)) ≤ 302224 =
      le_trans (sum_le p.axes _ (λ a. 37778) (λ a l. axis_most a (omega arith) o s)) (upto 8 p.axes (λ a. 37778) x longest_axes) in
      omega (
        arith,
        length-sum p.axes (axis_lines p t),
        length-table_line p,
        length_digit p.order (omega arith),
        length_digit p.axes (omega arith),
        most_digits 2 p.segments (omega arith),
      )

  table_least : p.order ≡ 7 → p.segments ≡ 256 → p.axes ≡ 8 → 8 * 256 * 8 ≤ length t
      → 302240 ≤ length (table_line p) + length (joined p.axes (axis_lines p t))
  table_least o s x room =
      let axes : 302224 ≤ sum p.axes (λ a. length (axis_lines p t a)) =
      le_trans (le_of_eq (sym longest_axes ∙ ap (λ (n : ℕ). sum n (λ a. 37778)) (sym x)))
      (sum_le p.axes (λ a. 37778) _ (λ a l. axis_least a (omega arith) o s room)) in
      omega (
        arith,
        length-sum p.axes (axis_lines p t),
        length-table_line p,
        some_digit p.order,
        some_digit p.axes,
        ap (λ (n : ℕ). length (natural n)) s,
        three_digits,
      )

  table_length_lem : length (table_output p t) ≡ length (table_line p) + length (joined p.axes (axis_lines p t))
  unfolding table_output
  table_length_lem = length-append (table_line p) (joined p.axes (axis_lines p t))

pub output_fits : OutputFits
output_fits =
    record {
      tables = λ p t o s x. rw table_length_lem (table_room p t o s x);
      longest = λ p t o s x room.
          let upper = table_room p t (omega arith) (omega arith) (omega arith) in
          let lower = table_least p t o s x room in
          omega (arith, table_length_lem p t);
      refusals = λ number place h k. omega (arith, length_refusal number place, most_refusal number place h k);
    }
