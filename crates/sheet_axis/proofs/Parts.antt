-- The parts of an axis, one after the other. Assumes nothing.
use mathlib.Core.Path.{◌≡◌, subst, ◌∙◌}
use mathlib.Core.List.{List, []}
use Prim.{tt}
use Prim.Native.Nat.{ℕ, suc, ◌+◌, ◌-◌, ◌≤◌}
use native.Mathlib.Omega.{arith}
use lib.IntN.{ℤ}
use lib.ListN.{length, drop, length-append, length-drop}
use Rattle.rules.specs.Sheets.{Items, States, states, axis, bytes, spell_items, spell_states, spell_axis, within, below4}
use Rattle.rules.specs.SheetReading as reading
use Rattle.sheet_laws.proofs.Fuel.{fuel}
use Rattle.sheet_laws.proofs.Limits.{list_spelled}
use Rattle.std.proofs.Common.{Result, Ok, Err}
use Rattle.rules.specs.declared.SheetError.{SheetError}
use Rattle.sheet_reading.specs.declared.Count.{Count}
use Rattle.sheet_items.specs.Says.{ListStops, ListFilled}
use Rattle.sheet_items.proofs.Sizes.{list_size}
use Rattle.sheet_axis.specs.declared.StateSizes.{StateSizes}
use Rattle.sheet_axis.specs.Says.{Reads, Stops, led_list, ListIn, ListRead, ListSays, StatesTo, AxisTo}
use Rattle.sheet_axis.proofs.Joins.{far, word_at, word_far, lead_reads, lead_stops, pair_reads}

-- ---- a list that the list routine has read

module _ (text : List ℕ) (from : ℕ) (out : List ℤ) where
  list_reads : (items : Items) (next : ℕ) → reading.items within below4 (suc (length (drop from text))) 0 (drop from text) ≡ reading.got items (drop next text)
      → next ≤ length text → Reads (reading.read_list within below4) text from items next
  list_reads items next e h = record {
    says = λ n l. fuel within below4 n (suc (length (drop from text))) 0 (drop from text) (omega (arith, length-drop from text)) (omega arith) ∙ e;
    inside = h;
  }

  list_stops : (e : SheetError) → ListStops text from 0 e → Stops (reading.read_list within below4) text from e
  list_stops e s = record {
    says = λ n l.
        fuel within below4 n (suc (length (drop from text))) 0 (drop from text) (omega (arith, length-drop from text)) (omega arith) ∙ s.reads;
    inside = s.inside;
  }

-- fixed bytes, and the list after them
module _ (text w : List ℕ) (from : ℕ) (out : List ℤ) (h : from ≤ length text) (mid : ℕ) (u : Reads (word_at w) text from tt mid) where
  pub led_says : (next : ℕ) (r : Result Count SheetError) (after : List ℤ) → ListFilled text mid 0 out 0 next r after
      → ListSays (led_list w) w [] text from out next r after
  led_says next (Ok count) after l =
      let m = word_far text w from mid u h in
      let s = list_spelled 0 (drop mid text) l.items (drop next text) l.reads in
      let f = far text (spell_items l.items) mid next s.0 u.inside l.inside in
      record {
        items = l.items;
        reads = lead_reads w _ text from mid u l.items next (list_reads text mid out l.items next l.reads l.inside);
        within = record {
          valid = s.1;
          counts = l.ends ∙ omega (arith, list_size l.items);
          overs = λ p. let z : length out - 0 - 1 ≡ length out - 1 = omega arith in l.overs p ∙ rw (m, z);
          holds = l.holds;
        };
        ends = omega (arith, f, m);
      }
  led_says next (Err e) after l = lead_stops w _ text from mid u e (list_stops text mid out e l)

-- ---- the end list and what closes the axis

pub end_closed : (text : List ℕ) (from : ℕ) (out : List ℤ) (count : Count) (mid : ℕ) (after : List ℤ)
    → ListRead (led_list (bytes " (end ")) (bytes " (end ") [] text from out count mid after → (next : ℕ) → Reads (word_at (bytes ")\n")) text mid tt next
    → ListRead (reading.read_end within below4) (bytes " (end ") (bytes ")\n") text from out count next after
unfolding reading.read_end
end_closed text from out count mid after l next q = record {
  items = l.items;
  reads = pair_reads (λ e u. e) _ _ text from l.items mid l.reads tt next q;
  within = l.within;
  ends = omega (arith, l.ends, word_far text (bytes ")\n") mid next q l.reads.inside);
}

-- ---- both states

states_length : (s e : Items) → length (spell_states (states s e))
    ≡ length (bytes " (start ") + length (spell_items s) + length (bytes " (end ") + length (spell_items e) + length (bytes ")\n")
unfolding spell_states
states_length s e = simp length-append (omega arith)

axis_length : (p : Items) (st : States) → length (spell_axis (axis p st)) ≡ length (bytes "(axis (points ") + length (spell_items p) + length (spell_states st)
unfolding spell_axis
axis_length p st = simp length-append (omega arith)

abbrev moved : {place other : ℕ} → place ≡ other → (out : List ℤ) (items : Items) (count : Count) (after : List ℤ)
    → ListIn place out items count after → ListIn other out items count after
moved e out items count after l = subst (λ p. ListIn p out items count after) e l

pub states_read : (text : List ℕ) (from : ℕ) (start end : List ℤ) (count : Count) (mid : ℕ) (a : List ℤ)
    → ListRead (led_list (bytes " (start ")) (bytes " (start ") [] text from start count mid a → (other : Count) (next : ℕ) (b : List ℤ)
    → ListRead (reading.read_end within below4) (bytes " (end ") (bytes ")\n") text mid end other next b
    → StatesTo text from start end (record { start = count; end = other }) next a b
unfolding reading.read_states
states_read text from start end count mid a l other next b q = record {
  starts = l.items;
  ends = q.items;
  reads = pair_reads states _ _ text from l.items mid l.reads q.items next q.reads;
  next_is = omega (arith, l.ends, q.ends, states_length l.items q.items);
  start_in = l.within;
  end_in = moved (omega (arith, l.ends)) end q.items other b q.within;
}

-- ---- an axis

pub axis_read : (text : List ℕ) (from : ℕ) (points start end : List ℤ) (count : Count) (mid : ℕ) (a : List ℤ)
    → ListRead (led_list (bytes "(axis (points ")) (bytes "(axis (points ") [] text from points count mid a → (z : StateSizes) (next : ℕ) (b c : List ℤ)
    → StatesTo text mid start end z next b c
    → AxisTo text from points start end (record { points = count; close = mid - 1; start = z.start; end = z.end }) next a b c
unfolding reading.read_axis
axis_read text from points start end count mid a l z next b c t = record {
  pts = l.items;
  starts = t.starts;
  ends = t.ends;
  reads = pair_reads axis _ _ text from l.items mid l.reads (states t.starts t.ends) next t.reads;
  next_is = omega (arith, l.ends, t.next_is, axis_length l.items (states t.starts t.ends));
  points_in = l.within;
  close_is = omega (arith, l.ends);
  start_in = moved (omega (arith, l.ends)) start t.starts z.start b t.start_in;
  end_in = moved (omega (arith, l.ends)) end t.ends z.end c t.end_in;
}
