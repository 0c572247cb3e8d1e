-- What follows an item of a list, and how an item begins, byte by byte. Assumes nothing.
use mathlib.Core.Path.{◌≡◌, refl, sym, ap}
use mathlib.Core.Bool.{true, false, not}
use mathlib.Core.List.{List}
use Prim.Native.Nat.{ℕ, ◌+◌, ◌≤◌, ◌<◌}
use native.Mathlib.Omega.{arith}
use lib.ListN.{length, drop}
use borrow.Author.Tests.{eqb-true, ne_eqb, lt-ltb, le-ltb}
use Rattle.std.proofs.Common.{Option, None, Some, Result, Ok, Err, nat_eq}
use Rattle.std.specs.Result.{IfOk}
use Rattle.std.specs.List.{slice_get}
use Rattle.std.specs.Option.{option_eq}
use Rattle.std.proofs.lemmas.Bool.{not-true, not-false}
use Rattle.rules.specs.declared.PathError.TheVariants.{SheetTooDeep}
use Rattle.rules.specs.declared.SheetError.{SheetError}
use Rattle.rules.specs.Sheets.{Item, Items, whole, within}
use Rattle.rules.specs.SheetReading as reading
use Rattle.sheet_reading.specs.Says.{invalid_at, stop_at, read_of, IsInside}
use Rattle.sheet_reading.proofs.Bytes.{left_none, left_byte, byte_here}
use Rattle.sheet_items.specs.Says.{item_with, after_with, Opened, Following}

module _ (text : List ℕ) (from : ℕ) (inside : from ≤ length text) where
  pub follow_close : slice_get text from ≡ Some 41 → Following text from (from + 1) (Ok false)
  unfolding reading.after
  follow_close e = (refl, omega (arith, byte_here text from 41 e), λ others i. rw (left_byte text from 41 e, reading.after))

  pub follow_item : slice_get text from ≡ Some 32 → Following text from (from + 1) (Ok true)
  unfolding reading.after
  follow_item e = (refl, omega (arith, byte_here text from 32 e), λ others i. rw (left_byte text from 32 e, reading.after))

  pub follow_other : (slice_get text from ≡ Some 32 → ⊥) → (slice_get text from ≡ Some 41 → ⊥) → Following text from from (Err (invalid_at from))
  unfolding reading.after
  follow_other m n = (inside, λ others i. go others i (slice_get text from) refl m n)
    where
      go : (others : List ℕ → reading.Read Items) (i : Item) (o : Option ℕ) → slice_get text from ≡ o → (o ≡ Some 32 → ⊥) → (o ≡ Some 41 → ⊥)
          → after_with others i (drop from text) ≡ stop_at text (invalid_at from)
      go others i None e m n = rw (left_none text from e)
      go others i (Some b) e m n =
          rw (left_byte text from b e, ne_eqb b 41 (λ f. n (ap (λ x. Some x) f)), ne_eqb b 32 (λ f. m (ap (λ x. Some x) f)), reading.after)

module _ (text : List ℕ) (from d : ℕ) (inside : from ≤ length text) where
  -- o: the byte at the place, if there is one
  pub open_number : (o : Option ℕ) → o ≡ slice_get text from → not (option_eq nat_eq o (Some 40)) ≡ true → (inner : List ℕ → reading.Read Items)
      → item_with inner d (drop from text) ≡ reading.then (reading.number within (drop from text)) (λ z rest. reading.got (whole z) rest)
  unfolding reading.item reading.number reading.then
  open_number None e n inner = rw (left_none text from (sym e))
  open_number (Some b) e n inner = rw (left_byte text from b (sym e), not-true _ n, reading.item)

  pub open_bracket : (o : Option ℕ) → o ≡ slice_get text from → not (option_eq nat_eq o (Some 40)) ≡ false → slice_get text from ≡ Some 40
  open_bracket None e n = cc
  open_bracket (Some b) e n = let x = eqb-true b 40 (not-false _ n) in rw x at (sym e)

  module _ (e : slice_get text from ≡ Some 40) where
    pub open_deep : 4 ≤ d → (next : ℕ) → Opened text from d next (Err (record { cause = SheetTooDeep; at = from }))
    unfolding reading.item
    open_deep k next = (inside, λ inner. rw (left_byte text from 40 e, le-ltb _ _ k, reading.item))

    pub open_says : d < 4 → (next : ℕ) → next ≤ length text → (r : Result ℕ SheetError) → read_of text next r ≡ reading.head (drop (from + 1) text)
        → IsInside (from + 1 + 1) (length text) next r → IfOk r (λ n. (1 ≤ n) × (n ≤ 64)) → Opened text from d next r
    unfolding reading.item reading.form reading.then
    open_says k next h (Ok n) says i s = (
      omega (arith, i),
      h,
      s.0,
      s.1,
      k,
      λ inner. rw (left_byte text from 40 e, lt-ltb _ _ k, ← says, reading.item),
    )
    open_says k next h (Err x) says i s = (i, λ inner. rw (left_byte text from 40 e, lt-ltb _ _ k, ← says, reading.item))
