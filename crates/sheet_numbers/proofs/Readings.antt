-- One step of each of the judge's readings, at a place of the text. Assumes nothing.
use Prim.{tt}
use mathlib.Core.Path.{◌≡◌, refl, sym, ap, ◌∙◌}
use mathlib.Core.Bool.{true, false}
use mathlib.Core.List.{List}
use Prim.Native.Nat.{ℕ, zero, suc, ◌+◌, ◌-◌, ◌^◌, ◌≤◌}
use native.Mathlib.Omega.{arith}
use lib.IntN.{ℤ, pos, negsuc, neg_ℤ, ◌-ℤ◌, nat_abs, +ℤ_idl}
use lib.ListN.{drop}
use mir.Facts.{to_z-of_z}
use mir.Syntax.{w64}
use mir.Val.{SFits, to_z, of_z}
use borrow.Author.Tests.{ne_eqb}
use Rattle.std.proofs.Common.{None, Some, Result, Ok, Err}
use Rattle.std.specs.List.{slice_get}
use Rattle.rules.specs.Sheets.{within}
use Rattle.rules.specs.declared.SheetError.{SheetError}
use Rattle.rules.specs.SheetReading as reading
use Rattle.sheet_reading.specs.Says.{read_of, stop_at}
use Rattle.sheet_reading.proofs.Bytes.{left_none, left_byte}
use Rattle.sheet_decimals.specs.declared.DecimalError.{DecimalError}
use Rattle.sheet_decimals.specs.Says.{up_to, DecimalSmall}
use Rattle.sheet_numbers.specs.Says.{plain_at}

-- ---- digits that do not lead with a 0

-- `over`: the judge's answer where a digit passes the limit
module _ (limit : ℕ) (over : List ℕ → reading.Read ℕ) (s : List ℕ) (i : ℕ) where
  pub positive_end : slice_get s i ≡ None → reading.positive (up_to limit) over (drop i s) ≡ reading.stop 600 (drop i s)
  unfolding reading.positive
  positive_end e = rw (left_none s i e)

  module _ (b : ℕ) (e : slice_get s i ≡ Some b) where
    pub positive_other : reading.is_first b ≡ false → reading.positive (up_to limit) over (drop i s) ≡ reading.stop 600 (drop i s)
    unfolding reading.positive
    positive_other f = rw (left_byte s i b e, f, reading.positive)

    pub positive_on : reading.is_first b ≡ true
        → reading.positive (up_to limit) over (drop i s) ≡ reading.digits (up_to limit) over (b - 48) (drop (i + 1) s)
    unfolding reading.positive
    positive_on f = rw (left_byte s i b e, f, reading.positive)

-- what is worth b or more is worth any number up to b, or more
pub decimal_least : (p : Result ℕ DecimalError) (a b limit : ℕ) → a ≤ b → DecimalSmall b limit p → DecimalSmall a limit p
decimal_least (Ok n) a b limit l h = omega arith
decimal_least (Err e) a b limit l h = tt

-- ---- a number up to 2^40 and its opposite, as an i64

pub near_fits : (z : ℤ) → nat_abs z ≤ 2 ^ 40 → SFits w64 z × SFits w64 (neg_ℤ z)
near_fits (pos zero) h = (record { sfits = omega arith }, record { sfits = omega arith })
near_fits (pos (suc n)) h = (record { sfits = omega arith }, record { sfits = omega arith })
near_fits (negsuc n) h = (record { sfits = omega arith }, record { sfits = omega arith })

abbrev pub kept : ℤ → ℤ
kept z = to_z w64 (of_z w64 z)

pub near_kept : (z : ℤ) → nat_abs z ≤ 2 ^ 40 → kept z ≡ z
near_kept z h = to_z-of_z (near_fits z h).0

pub kept_minus : (z : ℤ) → nat_abs z ≤ 2 ^ 40 → kept (pos 0 -ℤ kept z) ≡ neg_ℤ z
kept_minus z h = rw (near_kept z h, +ℤ_idl (neg_ℤ z)) (to_z-of_z (near_fits z h).1)

pub negated_size : (z : ℤ) → nat_abs (neg_ℤ z) ≡ nat_abs z
negated_size (pos zero) = refl
negated_size (pos (suc n)) = refl
negated_size (negsuc n) = refl

-- ---- digits as a number that starts at a place

pub plain_is : (s : List ℕ) (start from : ℕ) (x : reading.Read ℕ) → x ≡ reading.positive within (λ r. reading.stop 4 (drop start s)) (drop from s)
    → reading.then x (λ n rest. reading.got (pos n) rest) ≡ plain_at s start from
plain_is s start from x e = ap (λ y. reading.then y (λ n rest. reading.got (pos n) rest)) e

-- ---- a number by its first byte

module _ (s : List ℕ) (i : ℕ) where
  pub number_end : slice_get s i ≡ None → reading.number within (drop i s) ≡ reading.stop 600 (drop i s)
  unfolding reading.number
  number_end e = rw (left_none s i e)

  pub number_zero : slice_get s i ≡ Some 48 → reading.number within (drop i s) ≡ reading.got (pos 0) (drop (i + 1) s)
  unfolding reading.number
  number_zero e = rw (left_byte s i 48 e)

  pub number_plain : (b : ℕ) → slice_get s i ≡ Some b → (b ≡ 45 → ⊥) → (b ≡ 48 → ⊥) → reading.number within (drop i s) ≡ plain_at s i i
  unfolding reading.number
  number_plain b e f g = rw (left_byte s i b e, ne_eqb _ _ f, ne_eqb _ _ g, reading.number)

  minus_plain : (x : reading.Read ℕ) → reading.then x (λ n rest. reading.got (neg_ℤ (pos n)) rest)
      ≡ reading.then (reading.then x (λ n rest. reading.got (pos n) rest)) (λ z rest. reading.got (neg_ℤ z) rest)
  unfolding reading.then
  minus_plain (reading.got n rest) = refl
  minus_plain (reading.stop k rest) = refl

  module _ (e : slice_get s i ≡ Some 45) where
    minus_first : reading.number within (drop i s)
        ≡ reading.then (reading.positive within (λ r. reading.stop 4 (drop i s)) (drop (i + 1) s)) (λ n rest. reading.got (neg_ℤ (pos n)) rest)
    unfolding reading.number
    minus_first = rw (left_byte s i 45 e)

    minus_then : (next : ℕ) (r : Result ℤ SheetError) → read_of s next r ≡ plain_at s i (i + 1)
        → reading.then (read_of s next r) (λ z rest. reading.got (neg_ℤ z) rest) ≡ reading.number within (drop i s)
    minus_then next r f =
        ap (λ x. reading.then x (λ z rest. reading.got (neg_ℤ z) rest)) f
        ∙ sym (minus_plain (reading.positive within (λ r. reading.stop 4 (drop i s)) (drop (i + 1) s)))
        ∙ sym minus_first

    pub number_minus : (next : ℕ) (z : ℤ) → reading.got z (drop next s) ≡ plain_at s i (i + 1)
        → reading.got (neg_ℤ z) (drop next s) ≡ reading.number within (drop i s)
    unfolding reading.then
    number_minus next z f = minus_then next (Ok z) f

    pub number_stop : (e : SheetError) → stop_at s e ≡ plain_at s i (i + 1) → stop_at s e ≡ reading.number within (drop i s)
    unfolding reading.then
    number_stop e f = minus_then 0 (Err e) f
