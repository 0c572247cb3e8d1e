-- A whole sheet is read as the judge reads it. Assumes nothing.
use mathlib.Core.Path.{◌≡◌, refl, sym, ap, ◌∙◌}
use mathlib.Core.List.{List, [], ◌∷◌}
use Prim.Native.Nat.{ℕ, suc, ◌-◌, ◌≤◌, ◌<◌}
use native.Mathlib.Omega.{arith}
use lib.IntN.{ℤ}
use lib.ListN.{length, take, drop, length-drop, length-take, drop_of_length-le}
use borrow.Author.Tests.{le-leb, lt-leb}
use Rattle.std.proofs.Common.{None, Some, Result, Ok, Err}
use Rattle.rules.specs.declared.SheetError.{SheetError}
use Rattle.rules.specs.Sheets.{heading, range, spell_heading, Sheet, sheet, within, below4}
use Rattle.rules.specs.SheetReading as reading
use Rattle.rules.specs.SheetFaults.{Refusal, axes_sizes, first_count, sizes, refused, sized, longest, judge}
use Rattle.sheet_record.specs.declared.SheetNumbers.{SheetNumbers}
use Rattle.sheet_reading.specs.Says.{invalid_at, stop_at}
use Rattle.sheet_numbers.proofs.Readings.{kept, near_kept}
use Rattle.sheet_axis.specs.Says.{Stops}
use Rattle.sheet_axis.proofs.Joins.{pair_reads, pair_stops}
use Rattle.sheet_axes.specs.declared.AxesRead.{AxesRead}
use Rattle.sheet_axes.specs.Says.{first_of, said, refusal_of, AxesTo}
use Rattle.sheet_heading.specs.declared.HeadingNumbers.{HeadingNumbers}
use Rattle.sheet_heading.specs.Says.{HeadingTo}
use Rattle.sheet_reader.specs.Says.{WholeSays, SheetSays}

-- the first of some refusals
none_first : (xs : List Refusal) → None ≡ first_of xs → xs ≡ []
none_first [] e = refl
none_first (r ∷ rest) e = cc

some_first : (xs : List Refusal) (r : Refusal) → Some r ≡ first_of xs → (rest : List Refusal) × (xs ≡ r ∷ rest)
some_first [] r e = cc
some_first (q ∷ rest) r e = let same : r ≡ q = cc in (rest, ap (λ x. x ∷ rest) (sym same))

-- ---- heading and axes

-- the sheet's reading with the fuel that the judge takes
pub stops_whole : (text : List ℕ) (e : SheetError) → Stops (reading.read_sheet within below4) text 0 e
    → (reading.sheet_of text ≡ stop_at text e) × (e.at ≤ length text)
unfolding reading.sheet_of
stops_whole text e p = (p.says (suc (length text)) (omega arith), p.inside)

-- the heading is read, and the axes are not
pub axes_stop : {text after : List ℕ} {n : HeadingNumbers} {mid : ℕ} {e : SheetError} → HeadingTo text 0 n mid → after ≡ text
    → Stops (reading.read_axes within below4 8) after mid e → (reading.sheet_of text ≡ stop_at text e) × (e.at ≤ length text)
unfolding reading.read_sheet
axes_stop {text} h same s = stops_whole text _ (pair_stops sheet _ _ text 0 _ _ h.reads _ (rw same at s))

module _ (text : List ℕ) (n : HeadingNumbers) (mid : ℕ) (h : HeadingTo text 0 n mid) (r : AxesRead) (points start end : List ℤ)
    (t : AxesTo text mid r.axes r.sizes points start end) where
  abbrev read : Sheet
  read = sheet (heading n.order (range n.from n.to)) t.axes

  got_whole : reading.sheet_of text ≡ reading.got read []
  unfolding reading.sheet_of reading.read_sheet
  got_whole =
      (pair_reads sheet _ _ text 0 (heading n.order (range n.from n.to)) mid h.reads t.axes (length text) t.reads).says (suc (length text)) (omega arith)
      ∙ ap (reading.got read) (drop_of_length-le text {i = length text} (omega arith))

  sizes_are : sizes read ≡ axes_sizes (first_count t.axes) mid t.axes
  unfolding sizes
  sizes_are =
      let start : length (spell_heading (heading n.order (range n.from n.to))) ≡ mid = omega (arith, h.next_is) in
      ap (λ p. axes_sizes (first_count t.axes) p t.axes) start

  pub sized_whole : (e : SheetError) → r.sizes.fault ≡ Some e → WholeSays text (Ok (Err e)) points start end
  sized_whole e o =
      let f = some_first (axes_sizes (first_count t.axes) mid t.axes) (refusal_of e) (sym (ap said o) ∙ t.first) in
      (read, got_whole, (f.0, sizes_are ∙ f.1))

  pub read_whole : r.sizes.fault ≡ None → WholeSays text (Ok (Ok (record {
    order = kept n.order;
    from = kept n.from;
    to = kept n.to;
    axes = r.axes;
    points = r.sizes.points;
    start = r.sizes.start;
    end = r.sizes.end;
  }))) points start end
  read_whole o =
      let c = t.clean o in
      let none = none_first (axes_sizes (first_count t.axes) mid t.axes) (sym (ap said o) ∙ t.first) in (
        read,
        got_whole,
        sizes_are ∙ none,
        record {
          order_is = near_kept n.order h.order_near;
          from_is = near_kept n.from h.from_near;
          to_is = near_kept n.to h.to_near;
          order_near = rw (near_kept n.order h.order_near) h.order_near;
          from_near = rw (near_kept n.from h.from_near) h.from_near;
          to_near = rw (near_kept n.to h.to_near) h.to_near;
          axes_is = t.many;
          some_axes = t.some;
          few_axes = t.few;
          some_points = c.some;
          few_points = c.few;
          points_are = c.alike;
          start_is = c.start_is;
          end_is = c.end_is;
          few_start = c.few_start;
          few_end = c.few_end;
          points_held = c.points_held;
          start_held = c.start_held;
          end_held = c.end_held;
        },
      )

-- ---- the judge

-- where the rest of a text begins
place_of_lem : (t : List ℕ) (place : ℕ) → place ≤ length t → place ≡ length t - length (drop place t)
place_of_lem t place h = omega (arith, length-drop place t)

module _ (t : List ℕ) (h : length t ≤ longest) (points start end : List ℤ) where
  judge_got : (s : Sheet) → reading.sheet_of t ≡ reading.got s [] → judge t ≡ sized s (sizes s)
  unfolding judge
  judge_got s e = rw (le-leb (length t) longest h, e, judge)

  judge_stop : (k : ℕ) (r : List ℕ) → reading.sheet_of t ≡ reading.stop k r → judge t ≡ refused k (length t - length r)
  unfolding judge
  judge_stop k r e = rw (le-leb (length t) longest h, e, judge)

  pub short_read : (r : Result SheetNumbers SheetError) → WholeSays t (Ok r) points start end → SheetSays (judge t) r points start end
  unfolding sized
  short_read (Ok n) w = rw (judge_got w.0 w.1, w.2) w.3
  short_read (Err e) w = rw (judge_got w.0 w.1, w.2.1) (refl, refl)

  pub short_stop : (e : SheetError) → WholeSays t (Err e) points start end → SheetSays (judge t) (Err e) points start end
  short_stop e w = rw (judge_stop _ (drop e.at t) w.0) (refl, place_of_lem t e.at w.1)

-- J19: the answer for a text that is not longer than 32,768 bytes, whatever was read
abbrev pub answer_of : Result (Result SheetNumbers SheetError) SheetError → Result SheetNumbers SheetError
answer_of (Ok r) = r
answer_of (Err e) = Err e

pub short : (t : List ℕ) → length t ≤ longest → (r : Result (Result SheetNumbers SheetError) SheetError) (points start end : List ℤ)
    → WholeSays t r points start end → SheetSays (judge t) (answer_of r) points start end
short t h (Ok r) points start end w = short_read t h points start end r w
short t h (Err e) points start end w = short_stop t h points start end e w

module _ (t : List ℕ) (h : longest < length t) (points start end : List ℤ) where
  cut_length : length (take longest t) ≡ longest
  cut_length = omega (arith, length-take longest t)

  judge_cut : (s : Sheet) → reading.sheet_of (take longest t) ≡ reading.got s [] → judge t ≡ refused 600 longest
  unfolding judge
  judge_cut s e = rw (lt-leb (length t) longest h, e, judge)

  judge_cut_stop : (k : ℕ) (r : List ℕ) → reading.sheet_of (take longest t) ≡ reading.stop k r → judge t ≡ refused k (longest - length r)
  unfolding judge
  judge_cut_stop k r e = rw (lt-leb (length t) longest h, e, judge)

  pub long_read : (r : Result SheetNumbers SheetError) → WholeSays (take longest t) (Ok r) points start end
      → SheetSays (judge t) (Err (invalid_at longest)) points start end
  long_read (Ok n) w = rw (judge_cut w.0 w.1) (refl, refl)
  long_read (Err e) w = rw (judge_cut w.0 w.1) (refl, refl)

  pub long_stop : (e : SheetError) → WholeSays (take longest t) (Err e) points start end → SheetSays (judge t) (Err e) points start end
  long_stop e w = rw (judge_cut_stop _ (drop e.at (take longest t)) w.0) (refl, place_of_lem (take longest t) e.at w.1 ∙ rw cut_length)

-- J19: and for one that is
abbrev pub cut_of : Result (Result SheetNumbers SheetError) SheetError → Result SheetNumbers SheetError
cut_of (Ok r) = Err (invalid_at longest)
cut_of (Err e) = Err e

pub long : (t : List ℕ) → longest < length t → (r : Result (Result SheetNumbers SheetError) SheetError) (points start end : List ℤ)
    → WholeSays (take longest t) r points start end → SheetSays (judge t) (cut_of r) points start end
long t h (Ok r) points start end w = long_read t h points start end r w
long t h (Err e) points start end w = long_stop t h points start end e w
