-- G1: floats, by the head of document 01: "f64, IEEE 754, nearest, ties to even". The values and their rounding are the kit's `lib.Ieee`;
-- ⊕ ⊖ ⊗ ⊘ are its sum, difference, product and quotient, each rounded once. `≡` between floats is the very value, a zero's sign included.
-- Assumes nothing.
use Rattle.std.specs.Prelude.{ℕ, zero, suc, Bool, true, false, List, map, ℤ, pos, get_or, Float}
use Rattle.std.specs.Float.{nan, inf, fin, binary64}
use Rattle.std.specs.Float.Ieee.{add, sub, mul, div, of_int}

infixl 60 ◌⊕◌ ◌⊖◌
infixl 70 ◌⊗◌ ◌⊘◌
infixl 80 ◌!◌
abbrev pub ◌⊕◌ : Float → Float → Float
x ⊕ y = add binary64 x y

abbrev pub ◌⊖◌ : Float → Float → Float
x ⊖ y = sub binary64 x y

abbrev pub ◌⊗◌ : Float → Float → Float
x ⊗ y = mul binary64 x y

abbrev pub ◌⊘◌ : Float → Float → Float
x ⊘ y = div binary64 x y

abbrev pub +0 : Float
+0 = fin false 0 (pos 0)

abbrev pub +1 : Float
+1 = fin false 1 (pos 0)

-- a count as a float
abbrev pub of_count : ℕ → Float
of_count n = of_int binary64 (pos n)

-- whole numbers as floats
abbrev pub of_ints : List ℤ → List Float
of_ints zs = map (of_int binary64) zs

abbrev pub finite : Float → Bool
finite nan = false
finite (inf s) = false
finite (fin s m e) = true

-- the number without its sign
abbrev pub magnitude : Float → Float
magnitude nan = nan
magnitude (inf s) = inf false
magnitude (fin s m e) = fin false m e

-- the number at place i of a list, counted from 0
abbrev pub ◌!◌ : List Float → ℕ → Float
xs ! i = get_or xs i +0

-- R3: "Every sum of products runs left to right, first product unaccompanied": f 0 ⊕ f 1 ⊕ .. ⊕ f (n − 1), which starts at f 0 and not at a zero.
-- (No sum of the rules is empty.)
unfoldable pub sum_of : ℕ → (ℕ → Float) → Float
sum_of zero f = +0
sum_of (suc zero) f = f 0
sum_of (suc (suc n)) f = sum_of (suc n) f ⊕ f (suc n)
