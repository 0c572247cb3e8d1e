-- An item is a number, a form of a list, or a fault. Assumes nothing.
use mathlib.Core.Path.{◌≡◌, ◌∙◌}
use mathlib.Core.List.{List}
use Prim.Native.Nat.{ℕ, suc, ◌+◌, ◌-◌, ◌*◌, ◌≤◌, min}
use native.Mathlib.Omega.{arith}
use native.Mathlib.Numerals.{add-one}
use lib.IntN.{ℤ}
use lib.ListN.{length, drop}
use Rattle.rules.specs.Sheets.{Items, whole, again, within}
use Rattle.rules.specs.SheetReading as reading
use Rattle.rules.specs.SheetAnswers.{numbers, numbers_of, times}
use Rattle.sheet_puts.specs.Put.{put, block}
use Rattle.sheet_puts.proofs.Puts.{length-put, end_times, put_times}
use Rattle.std.proofs.Common.{Result, Ok, Err}
use Rattle.rules.specs.declared.SheetError.{SheetError}
use Rattle.sheet_reading.specs.Says.{stop_at}
use Rattle.sheet_items.specs.Says.{list_at, item_with, end_after, Opened, NumberFilled, ItemTo, ItemStops, ItemFilled, ListTo, ListStops}

-- a list that was written and then repeated
times_put : (out : List ℤ) (at : ℕ) (xs : List ℤ) → at ≤ length out → (n : ℕ) → 1 ≤ n → (mid : List ℤ) (end : ℕ) → mid ≡ put out at xs
    → end ≡ end_after out at xs
    → (min (length mid) (at + n * (end - at)) ≡ end_after out at (times n xs)) × (put mid at (times n (block mid at end)) ≡ put out at (times n xs))
times_put out at xs h n q mid end e f =
    (rw (e, f, length-put out at xs h) (end_times out at xs h n q), rw (e, f) (put_times out at xs h n q))

module _ (text : List ℕ) (from d : ℕ) (out : List ℤ) (at : ℕ) where
  pub number_is : ((inner : List ℕ → reading.Read Items) → item_with inner d (drop from text)
      ≡ reading.then (reading.number within (drop from text)) (λ z rest. reading.got (whole z) rest))
      → (next : ℕ) (r : Result ℕ SheetError) (after : List ℤ) → NumberFilled text from out at next r after
      → ItemFilled text from d out at next r after
  unfolding numbers_of reading.then
  number_is o next (Ok end) after n = record {
    it = whole n.0;
    reads = o _ ∙ rw n.1;
    forward = n.2;
    inside = n.3;
    ends = n.4;
    holds = n.5;
  }
  number_is o next (Err e) after n = record { reads = o _ ∙ rw n.0; inside = n.1 }

  module _ (start n : ℕ) (o : Opened text from d start (Ok n)) where
    pub form_stops : (e : SheetError) → ListStops text start (d + 1) e → ItemStops text from d e
    unfolding reading.then
    form_stops e l =
        let f : list_at (suc d) (drop start text) ≡ stop_at text e = rw add-one at l.reads in
        record { reads = o.5 _ ∙ rw f; inside = l.inside }

    module _ (h : at ≤ length out) (end next over : ℕ) (mid : List ℤ) (l : ListTo text start (d + 1) out at end next over mid) where
      -- a form is its list, n times over
      pub form_is : (last : ℕ) (after : List ℤ)
          → (last ≡ min (length mid) (at + n * (end - at))) × (after ≡ put mid at (times n (block mid at end)))
          → ItemTo text from d out at last next after
      unfolding numbers_of reading.then
      form_is last after i =
          let t = times_put out at (numbers l.items) h n o.2 mid end l.holds l.ends in
          let e : list_at (suc d) (drop start text) ≡ reading.got l.items (drop next text) = rw add-one at l.reads in
          record {
            it = again n l.items;
            reads = o.5 _ ∙ rw e;
            forward = omega (arith, o.0, l.forward);
            inside = l.inside;
            ends = i.0 ∙ t.0;
            holds = i.1 ∙ t.1;
          }
