-- What the heading of an `again` form comes to, by its parts. Assumes nothing.
use Prim.{tt}
use mathlib.Core.Path.{◌≡◌}
use mathlib.Core.List.{List}
use Prim.Native.Nat.{ℕ}
use lib.ListN.{drop}
use Rattle.std.proofs.Common.{Err}
use Rattle.rules.specs.Sheets.{bytes}
use Rattle.rules.specs.SheetReading as reading
use Rattle.sheet_decimals.specs.declared.DecimalError.{DecimalError}
use Rattle.sheet_decimals.specs.declared.DecimalError.TheVariants.{Missing, Over}
use Rattle.sheet_numbers.specs.Says.{PositiveSays}

-- no digit and a digit past 64 are refused alike
pub no_count : (s : List ℕ) (from next : ℕ) (e : DecimalError) → PositiveSays s from 64 next (Err e) → reading.stop 600 (drop next s) ≡ reading.count (drop from s)
unfolding PositiveSays
no_count s from next Missing h = h (λ r. reading.stop 600 r)
no_count s from next Over h = h (λ r. reading.stop 600 r)

module _ (t : List ℕ) where
  pub head_stop : (k : ℕ) (r : List ℕ) → reading.word (bytes "again ") t ≡ reading.stop k r → reading.head t ≡ reading.stop k r
  unfolding reading.head reading.then
  head_stop k r e = rw (e, reading.head, reading.then)

  module _ (t1 : List ℕ) (e : reading.word (bytes "again ") t ≡ reading.got tt t1) where
    pub head_count : (k : ℕ) (r : List ℕ) → reading.count t1 ≡ reading.stop k r → reading.head t ≡ reading.stop k r
    unfolding reading.head reading.then
    head_count k r f = rw (e, f, reading.head, reading.then)

    module _ (n : ℕ) (t2 : List ℕ) (f : reading.count t1 ≡ reading.got n t2) where
      pub head_gap : (k : ℕ) (r : List ℕ) → reading.word (bytes " ") t2 ≡ reading.stop k r → reading.head t ≡ reading.stop k r
      unfolding reading.head reading.then
      head_gap k r g = rw (e, f, g, reading.head, reading.then)

      pub head_is : (r : List ℕ) → reading.word (bytes " ") t2 ≡ reading.got tt r → reading.head t ≡ reading.got n r
      unfolding reading.head reading.then
      head_is r g = rw (e, f, g, reading.head, reading.then)
