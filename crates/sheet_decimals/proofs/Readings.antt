-- One step of the judge's reading of digits, at a place of the text. Assumes nothing.
use mathlib.Core.Path.{◌≡◌, sym, ◌∙◌}
use mathlib.Core.Bool.{true, false}
use mathlib.Core.List.{List}
use Prim.Native.Nat.{ℕ, ◌+◌, ◌-◌, ◌*◌, ◌<◌, ◌≤◌}
use native.Mathlib.Omega.{arith}
use lib.ListN.{length, get_or, take, drop, length-take, length-drop, drop_of_length-le}
use lib.Seq.{get_or-take, get_or-drop}
use borrow.Author.Tests.{le-leb, lt-leb}
use Rattle.rules.specs.SheetReading as reading
use Rattle.sheet_laws.proofs.Texts.{drop_here}
use Rattle.sheet_decimals.specs.Says.{up_to}

-- a byte of what is left of a text from a place on, which stands at another place of the text
module _ (s : List ℕ) (from i at : ℕ) (here : at ≡ from + i) (h : i < length (take (length s - from) (drop from s))) where
  pub left_in : at < length s
  left_in = omega (arith, here, h, length-take (length s - from) (drop from s), length-drop from s)

  pub left_is : get_or s at 0 ≡ get_or (take (length s - from) (drop from s)) i 0
  left_is =
      rw here (sym (get_or-take (length s - from) (drop from s) i 0 (omega (arith, left_in)) ∙ get_or-drop from s i 0))

-- `over`: the judge's answer where a digit passes the limit
module _ (limit : ℕ) (over : List ℕ → reading.Read ℕ) (s : List ℕ) (i : ℕ) where
  pub digits_end : (n : ℕ) → length s ≤ i → reading.digits (up_to limit) over n (drop i s) ≡ reading.got n (drop i s)
  unfolding reading.digits
  digits_end n h = rw (drop_of_length-le s h)

  module _ (h : i < length s) where
    pub digits_other : (n : ℕ) → reading.is_digit (get_or s i 0) ≡ false → reading.digits (up_to limit) over n (drop i s) ≡ reading.got n (drop i s)
    unfolding reading.digits
    digits_other n e = rw (drop_here s i h, e, reading.digits)

    pub digits_more : (n : ℕ) → reading.is_digit (get_or s i 0) ≡ true → n * 10 + (get_or s i 0 - 48) ≤ limit
        → reading.digits (up_to limit) over n (drop i s) ≡ reading.digits (up_to limit) over (n * 10 + (get_or s i 0 - 48)) (drop (i + 1) s)
    unfolding reading.digits
    digits_more n e f = rw (drop_here s i h, e, le-leb _ _ f, reading.digits)

    pub digits_large : (n : ℕ) → reading.is_digit (get_or s i 0) ≡ true → limit < n * 10 + (get_or s i 0 - 48)
        → reading.digits (up_to limit) over n (drop i s) ≡ over (drop i s)
    unfolding reading.digits
    digits_large n e f = rw (drop_here s i h, e, lt-leb _ _ f, reading.digits)
