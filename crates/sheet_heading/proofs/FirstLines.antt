-- The order and the range, one number after the other. Assumes nothing.
use mathlib.Core.Path.{◌≡◌, sym}
use mathlib.Core.List.{List, []}
use Prim.{tt}
use Prim.Native.Nat.{ℕ, ◌+◌, ◌≤◌}
use native.Mathlib.Omega.{arith}
use lib.IntN.{ℤ}
use lib.ListN.{length, drop, length-append}
use Rattle.std.proofs.Common.{Result, Ok, Err}
use Rattle.rules.specs.declared.SheetError.{SheetError}
use Rattle.rules.specs.Sheets.{bytes, heading, range, signed, spell_range, spell_heading, within, below4}
use Rattle.rules.specs.SheetReading as reading
use Rattle.sheet_laws.proofs.Words.{Number, number_n, Ends, number_out}
use Rattle.sheet_laws.proofs.Limits.{within_small, within_shorter, spelled}
use Rattle.sheet_reading.specs.Says.{read_of, IsInside}
use Rattle.sheet_numbers.specs.Says.{WholeSmall}
use Rattle.sheet_axis.specs.Says.{Reads}
use Rattle.sheet_axis.proofs.Joins.{far, word_at, word_far, lead_reads, lead_stops, pair_reads}
use Rattle.sheet_heading.specs.Says.{led_number, NumberTo, NumberSays, HeadingTo}

-- fixed bytes, and the number after them
module _ (text w : List ℕ) (from : ℕ) (h : from ≤ length text) (mid : ℕ) (u : Reads (word_at w) text from tt mid) where
  pub led_says : (next : ℕ) → next ≤ length text → (r : Result ℤ SheetError) → read_of text next r ≡ reading.number within (drop mid text)
      → IsInside (mid + 1) (length text) next r → WholeSmall r → NumberSays (led_number w) w [] text from next r
  led_says next k (Ok z) e i n =
      let s = spelled signed (Number within within_small within_shorter) (number_n within within_small within_shorter) Ends (drop mid text) _
      (number_out within within_small within_shorter (drop mid text)) z (drop next text) (sym e) in
      record {
        reads = lead_reads w _ text from mid u z next (record { says = λ n l. sym e; inside = k });
        near = n;
        ends = omega (arith, word_far text w from mid u h, far text (signed z) mid next s.0 u.inside k);
      }
  led_says next k (Err x) e i n = lead_stops w _ text from mid u x (record { says = λ n l. sym e; inside = i })

-- the upper end of the range, and the end of its line
pub upper_closed : (text : List ℕ) (from : ℕ) (z : ℤ) (mid : ℕ) → NumberTo (led_number (bytes " ")) (bytes " ") [] text from z mid → (next : ℕ)
    → Reads (word_at (bytes ")\n")) text mid tt next → NumberTo (reading.read_upper within below4) (bytes " ") (bytes ")\n") text from z next
unfolding reading.read_upper
upper_closed text from z mid l next q = record {
  reads = pair_reads (λ z u. z) _ _ text from z mid l.reads tt next q;
  near = l.near;
  ends = omega (arith, l.ends, word_far text (bytes ")\n") mid next q l.reads.inside);
}

-- ---- the heading

heading_length : (order from to : ℤ) → length (spell_heading (heading order (range from to)))
    ≡ length (bytes "(order ") + length (signed order) + length (bytes ")\n(range ") + length (signed from) + length (bytes " ") + length (signed to)
    + length (bytes ")\n")
unfolding spell_heading spell_range
heading_length order from to = simp length-append (omega arith)

pub all_read : (text : List ℕ) (start : ℕ) (order : ℤ) (mid : ℕ) → NumberTo (led_number (bytes "(order ")) (bytes "(order ") [] text start order mid
    → (from : ℤ) (next : ℕ) → NumberTo (led_number (bytes ")\n(range ")) (bytes ")\n(range ") [] text mid from next
    → (to : ℤ) (after : ℕ) → NumberTo (reading.read_upper within below4) (bytes " ") (bytes ")\n") text next to after
    → HeadingTo text start (record { order = order; from = from; to = to }) after
unfolding reading.read_heading reading.read_range
all_read text start order mid o from next f to after t = record {
  reads = pair_reads heading _ _ text start order mid o.reads (range from to) after (pair_reads range _ _ text mid from next f.reads to after t.reads);
  next_is = omega (arith, o.ends, f.ends, t.ends, heading_length order from to);
  order_near = o.near;
  from_near = f.near;
  to_near = t.near;
}
